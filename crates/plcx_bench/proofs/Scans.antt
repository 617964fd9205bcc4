-- Scans, one after another.
use Rattle.std.proofs.Common.{◌≡◌, ◌+◌, ℕ, zero, suc, ℤ, pos, List, [], ◌∷◌, ◌++◌, refl, sym, subst, arith}
use Rattle.plcx_meaning.specs.Run.{Event, Machine, Side, after}
use Rattle.plcx_meaning.specs.Traces.{side_at_end}
use Rattle.plcx_state.specs.declared.layout.Leaf.{Leaf}
use Rattle.plcx_scan.specs.Events.{scan_of}
use Rattle.plcx_scan.specs.Sides.{Brings, BringsAll}
use Rattle.plcx_bench.specs.Summary.{turns, scan_at}

-- the first scans
abbrev pub scans : ℕ → List Event
scans zero = []
scans (suc n) = scans n ++ scan_at n ∷ []

end_more : {G : Type 0} (m : Machine G) (es : List Event) (e : Event) (s : Side G) → side_at_end m turns (es ++ e ∷ []) s ≡ after m turns e (side_at_end m turns es s)
end_more m [] e s = refl
end_more m (d ∷ es) e s = end_more m es e (after m turns d s)

-- one scan more, whose time is the count of those before
pub brings_next : {G : Type 0} (m k : Machine G) → k ≡ m → (i : ℕ) (leaves : List Leaf) (time : ℤ) → time ≡ pos i → (Old Mid New : Side G → Type 0) → BringsAll m turns (scans i) Old Mid
    → Brings k turns (scan_of leaves time []) Mid New → BringsAll m turns (scans (i + 1)) Old New
brings_next {G} m k same i leaves time is Old Mid New all one =
    let next : suc i ≡ i + 1 = omega arith in
    subst (λ j. BringsAll m turns (scans j) Old New) next by
  where
    here : Brings k turns (scan_at i) Mid New
    here = subst (λ (z : ℤ). Brings k turns (scan_of leaves z []) Mid New) is one

    by : BringsAll m turns (scans (suc i)) Old New
    by g old =
        subst New (sym (end_more m (scans i) (scan_at i) g))
        (subst (λ (j : Machine G). New (after j turns (scan_at i) (side_at_end m turns (scans i) g))) same (here (side_at_end m turns (scans i) g) (all g old)))
