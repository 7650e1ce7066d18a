-- Past a line, one line more is passed.
use Rattle.std.proofs.Common.{ℕ, List, drop, sym, ap, ◌∙◌}
use Rattle.std.proofs.lemmas.List.{drop-drop}
use Rattle.entries.specs.Lines.{lines}
use Rattle.entries.proofs.reader.PartReader.pass.Goals as goal

pub invariant_of-self-clause-place : goal.invariant_of-self-clause-place
invariant_of-self-clause-place c =
    sym (drop-drop 1 c.args.self.now.passed (lines c.args.self.now.text.now)) ∙ ap (λ (ls : List (List ℕ)). drop 1 ls) (c.args.self.now.place ∙ c.requires.2)
