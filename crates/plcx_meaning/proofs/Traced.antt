-- Sides that are the same have the same traces.
use Rattle.std.proofs.Common.{◌≡◌, ℕ, Bool, true, false, true≢false, List, [], ◌∷◌, filter, refl, sym, ap, ap₂, ◌∙◌, if◌then◌else◌}
use Rattle.plcx_types.specs.Lists.{Each}
use Rattle.plcx_meaning.specs.Base.{is_declared}
use Rattle.plcx_meaning.specs.Layout.{Leaf, declared_leaves, initial_in, IsOutside}
use Rattle.plcx_meaning.specs.Run.{Event, Machine, Side, after, begin_side}
use Rattle.plcx_meaning.specs.Same.{SameValues, SameRuns}
use Rattle.plcx_meaning.specs.Evaluate.{diagram_machine, scope_of}
use Rattle.plcx_meaning.specs.Execute.{text_machine}
use Rattle.plcx_meaning.specs.Execute as text
use Rattle.plcx_meaning.specs.Templates.{pou_text, unit_of}
use Rattle.plcx_meaning.specs.Laws.{OfPrograms, TracesAgree, StartsAgree}
use Rattle.plcx_meaning.proofs.Units.{program_there}
use Rattle.plcx_meaning.proofs.Events.{layout_outside, program_same, starts_same, starts_run}
use Rattle.plcx_meaning.specs.Traces.{line, trace_of, values_at, shown_values, retained_values, lines_from, side_at_end, trace_from}

-- what is shown is declared
shown_declared : (ls : List Leaf) → Each IsOutside ls → filter (λ (leaf : Leaf). leaf.shown) ls ≡ filter (λ (leaf : Leaf). leaf.shown) (declared_leaves ls)
shown_declared [] all = refl
shown_declared (leaf ∷ ls) all = by (is_declared leaf.path) all.0.1 (shown_declared ls all.1)
  where
    hidden : (s : Bool) → (s ≡ true → false ≡ true) → filter (λ (l : Leaf). l.shown) ls ≡ filter (λ (l : Leaf). l.shown) (declared_leaves ls)
        → (if s then leaf ∷ filter (λ (l : Leaf). l.shown) ls else filter (λ (l : Leaf). l.shown) ls) ≡ filter (λ (l : Leaf). l.shown) (declared_leaves ls)
    hidden true h rest = absurd (true≢false (sym (h refl)))
    hidden false h rest = rest

    by : (d : Bool) → (leaf.shown ≡ true → d ≡ true) → filter (λ (l : Leaf). l.shown) ls ≡ filter (λ (l : Leaf). l.shown) (declared_leaves ls)
        → filter (λ (l : Leaf). l.shown) (leaf ∷ ls) ≡ filter (λ (l : Leaf). l.shown) (if d then leaf ∷ declared_leaves ls else declared_leaves ls)
    by true h rest = ap (λ q. if leaf.shown then leaf ∷ q else q) rest
    by false h rest = hidden leaf.shown h rest

abbrev IsNamed : Leaf → Type 0
IsNamed leaf = is_declared leaf.path ≡ true

all_named : (q : Leaf → Bool) (ls : List Leaf) → Each IsNamed (filter q (declared_leaves ls))
all_named q [] = tt
all_named q (leaf ∷ ls) = kept (is_declared leaf.path) refl (all_named q ls)
  where
    put : (b : Bool) → IsNamed leaf → Each IsNamed (filter q (declared_leaves ls)) → Each IsNamed (if b then leaf ∷ filter q (declared_leaves ls) else filter q (declared_leaves ls))
    put true h rest = (h, rest)
    put false h rest = rest

    kept : (d : Bool) → is_declared leaf.path ≡ d → Each IsNamed (filter q (declared_leaves ls)) → Each IsNamed (filter q (if d then leaf ∷ declared_leaves ls else declared_leaves ls))
    kept true h rest = put (q leaf) h rest
    kept false h rest = rest

module _ {G H : Type 0} (m : Machine G) (k : Machine H) where
  values_same : (s : Side G) (t : Side H) → SameValues m k s t → (ls : List Leaf) → Each IsNamed ls → values_at m s ls ≡ values_at k t ls
  values_same s t same [] named = refl
  values_same s t same (leaf ∷ ls) named = ap₂ (λ n ns. n ∷ ns) (same leaf.path named.0) (values_same s t same ls named.1)

  module _ (layouts : declared_leaves m.layout ≡ declared_leaves k.layout) (left : Each IsOutside m.layout) (right : Each IsOutside k.layout) where
    shown_same : (s : Side G) (t : Side H) → SameValues m k s t → shown_values m s ≡ shown_values k t
    shown_same s t same =
        ap (values_at m s) (shown_declared m.layout left)
        ∙ values_same s t same (filter (λ (leaf : Leaf). leaf.shown) (declared_leaves m.layout)) (all_named (λ (leaf : Leaf). leaf.shown) m.layout)
        ∙ ap (λ ls. values_at k t (filter (λ (leaf : Leaf). leaf.shown) ls)) layouts
        ∙ ap (values_at k t) (sym (shown_declared k.layout right))

    retained_same : (s : Side G) (t : Side H) → SameValues m k s t → retained_values m s ≡ retained_values k t
    retained_same s t same =
        values_same s t same (filter (λ (leaf : Leaf). leaf.retained) (declared_leaves m.layout)) (all_named (λ (leaf : Leaf). leaf.retained) m.layout)
        ∙ ap (λ ls. values_at k t (filter (λ (leaf : Leaf). leaf.retained) ls)) layouts

    pub traces_same : (turns : ℕ) (es : List Event) (s : Side G) (t : Side H) → SameValues m k s t → SameRuns m k turns es s t → trace_from m turns es s ≡ trace_from k turns es t
    traces_same turns es s t same runs = ap₂ trace_of (lines_same es s t runs) (retained_same (side_at_end m turns es s) (side_at_end k turns es t) (ends_same es s t same runs))
      where
        lines_same : (es : List Event) (s : Side G) (t : Side H) → SameRuns m k turns es s t → lines_from m turns es s ≡ lines_from k turns es t
        lines_same [] s t runs = refl
        lines_same (e ∷ es) s t runs =
            ap₂ (λ l ls. l ∷ ls) (ap₂ line runs.0 (shown_same (after m turns e s) (after k turns e t) runs.2)) (lines_same es (after m turns e s) (after k turns e t) runs.3)

        ends_same : (es : List Event) (s : Side G) (t : Side H) → SameValues m k s t → SameRuns m k turns es s t → SameValues m k (side_at_end m turns es s) (side_at_end k turns es t)
        ends_same [] s t same runs = same
        ends_same (e ∷ es) s t same runs = ends_same es (after m turns e s) (after k turns e t) runs.2 runs.3

pub all_traced : OfPrograms TracesAgree
all_traced project fits name p named kept retained es good turns =
    let same = program_same project fits p (program_there name project p named) in
    traces_same (diagram_machine project p) (text_machine (unit_of project) (pou_text p)) same.layouts (layout_outside (scope_of project p)) (layout_outside (text.scope_of (unit_of project) (pou_text p)))
    turns es (begin_side (diagram_machine project p) kept) (begin_side (text_machine (unit_of project) (pou_text p)) kept) (same.begins kept) (same.runs kept retained es good turns)

pub all_started : OfPrograms StartsAgree
all_started project fits name p named es good turns =
    let there = program_there name project p named in
    traces_same (diagram_machine project p) (text_machine (unit_of project) (pou_text p)) (program_same project fits p there).layouts
    (layout_outside (scope_of project p)) (layout_outside (text.scope_of (unit_of project) (pou_text p))) turns es
    (begin_side (diagram_machine project p) (initial_in (diagram_machine project p).layout))
    (begin_side (text_machine (unit_of project) (pou_text p)) (initial_in (text_machine (unit_of project) (pou_text p)).layout))
    (starts_same project fits p there) (starts_run project fits p there es good turns)
