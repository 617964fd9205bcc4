-- What whoever has heard all of a run has counted.
use Rattle.std.proofs.Common.{◌≡◌, ◌∙◌, ℕ, List, ap}
use Rattle.std.specs.List.{fold}
use Rattle.std.specs.Prelude.{Option}
use Rattle.plcx_meaning.specs.Diagram.{Project}
use Rattle.plcx_words.specs.Command.{Run}
use Rattle.plcx_simulate.specs.Watching.{HearsAll, heard_in}
use Rattle.plcx_cover.specs.declared.counting.CoverRow.{CoverRow}
use Rattle.plcx_cover.specs.Counts.{rows_of, all_grown, told, CountsGrow}
use Rattle.plcx_cover.specs.Texts.{cover_text}
use Rattle.plcx_coverage.specs.Coverage.{IsCovered}

pub covered : (files : List ℕ → Option (List ℕ)) (project : Project) (r : Run) (trace text : List ℕ) (before behind : List CoverRow) → CountsGrow → before ≡ rows_of project
    → HearsAll files project r trace (λ heard. behind ≡ fold told before heard) → text ≡ cover_text project behind → IsCovered files project r text
covered files project r trace text before behind grow fresh h shown = record {
  trace = trace;
  traced = h.traced;
  text_is = shown ∙ ap (cover_text project) (h.became ∙ grow before (heard_in project r h.traced.course) ∙ ap (all_grown (heard_in project r h.traced.course)) fresh);
}
