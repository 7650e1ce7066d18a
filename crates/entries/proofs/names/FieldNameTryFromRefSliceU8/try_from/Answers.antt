-- The first field with the word is the one that it names.
use Rattle.std.proofs.Common.{[], ◌∷◌, ap, ◌∙◌, rules}
use Rattle.std.specs.Option.{ok_or}
use Rattle.std.specs.Str.{bytes_eq}
use Rattle.std.proofs.lemmas.Iterator.{YieldsList-from_slice}
use Rattle.std.proofs.lemmas.Iterator.Search.{find_from_yields_List}
use borrow.Author.Tests.{tests}
use Rattle.entries.specs.declared.names.FieldName.TheVariants.{Gf2, Gf3, Gf4, Gf5, Gf7, Gf11, Gf13}
use Rattle.entries.specs.Names.{field_word}
use Rattle.entries.proofs.names.FieldNameTryFromRefSliceU8.try_from.Goals as goal

pub returns : goal.returns
returns c =
    let found = find_from_yields_List (λ f. bytes_eq c.args.word.now (field_word f)) _ _ c.find.result c.find.ensures.ran (YieldsList-from_slice (Gf2 ∷ Gf3 ∷ Gf4 ∷ Gf5 ∷ Gf7 ∷ Gf11 ∷ Gf13 ∷ []) cc) (λ x b q k. search (rules, tests)) in
    c.ok_or.ensures.value ∙ ap (λ o. ok_or o (record {})) (c.copied.ensures ∙ found)
