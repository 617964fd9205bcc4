-- What holds of a side and a cover that were lent to a run, and came back.
use Rattle.std.proofs.Common.{◌≡◌, ℕ, List, sym, subst}
use Rattle.std.specs.Prelude.{Result, OnOk, OnErr, Ok, Err}
use Rattle.plcx_meaning.specs.Run.{Event}
use Rattle.plcx_eval.specs.declared.side.DiagramSide.{DiagramSide}
use Rattle.plcx_cover.specs.declared.counting.CoverRow.{CoverRow}
use Rattle.plcx_cover.specs.Covers.{Covers, CoversSome, Grows, GrowsSome}

-- what holds of what was lent holds of the side that it was lent from, and of the cover, which has become what came back
pub lent : (P : DiagramSide → List CoverRow → List CoverRow → Type 0) (borrowed side : DiagramSide) (had before has after : List CoverRow)
    → borrowed ≡ side → had ≡ before → after ≡ has → P borrowed had has → P side before after
lent P borrowed side had before has after lends begins gives holds =
    subst (λ s. P s before after) lends (subst (λ rows. P borrowed rows after) begins (subst (λ rows. P borrowed had rows) (sym gives) holds))

-- what holds where there is a result, and where there is none
pub on_ok : {A E : Type 0} (r : Result A E) (P Q : Type 0) → (P → Q) → OnOk r P → OnOk r Q
on_ok (Ok x) P Q f h = f h
on_ok (Err e) P Q f h = h

pub on_err : {A E : Type 0} (r : Result A E) (P Q : Type 0) → (P → Q) → OnErr r P → OnErr r Q
on_err (Ok x) P Q f h = h
on_err (Err e) P Q f h = f h

-- of what a run leaves the counts alone
pub counts_of : {A E : Type 0} (r : Result A E) (turns : ℕ) (es : List Event) (old new : DiagramSide) (before behind : List CoverRow) → OnOk r (Covers turns es old new before behind)
    → OnOk r (Grows turns es old before behind)
counts_of (Ok x) turns es old new before behind h = h.grows
counts_of (Err e) turns es old new before behind h = h

pub counts_some : {A E : Type 0} (r : Result A E) (turns : ℕ) (es : List Event) (old new : DiagramSide) (before behind : List CoverRow) → OnErr r (CoversSome turns es old new before behind)
    → OnErr r (GrowsSome turns es old before behind)
counts_some (Ok x) turns es old new before behind h = h
counts_some (Err e) turns es old new before behind h = (h.0, h.1, h.2.grows)
