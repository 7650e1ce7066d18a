-- The worked figures, computed from the definitions.
use Rattle.std.proofs.Common.{refl}
use Rattle.theory.specs.Worked.{WorkedFigures}
use Rattle.theory.specs.Visits.{visits}
use Rattle.theory.specs.Forms.{forms}
use Rattle.theory.specs.Codes.{codewords}
use Rattle.theory.specs.Standings.{best, bound, counted, line_count, spectrum}
use Rattle.theory.specs.Calls.{after, answer, raise_standing}

pub worked_figures : WorkedFigures
unfolding visits forms codewords spectrum bound line_count best counted raise_standing answer after
worked_figures = record {
  order = refl;
  positions_0 = refl;
  rank_0 = refl;
  positions_1 = refl;
  rank_1 = refl;
  bound_made = refl;
  three_visits = refl;
  best_third = refl;
  refused_other = refl;
  one_visit = refl;
  bound_fourth = refl;
  four_visits = refl;
  bound_known = refl;
  reads_known = refl;
  spectrum_3 = refl;
  spectrum_4 = refl;
  six_visits = refl;
  bound_complete = refl;
  reads_complete = refl;
  lines_complete = refl;
  spectrum_lee = refl;
}
