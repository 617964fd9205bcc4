-- A run from its parts: a program that is chosen, the retained state that it begins with, and what a side leaves.
use Rattle.std.proofs.Common.{◌≡◌, ◌∷◌, ◌∙◌, ℕ, List, [], ℤ, map, refl, sym, ap, ap₂, subst}
use Rattle.std.specs.Prelude.{Option, Some, None, pos, if◌then◌else◌}
use Rattle.std.proofs.Math.Path.{fun_ext}
use Rattle.plcx_types.specs.Lists.{Each}
use Rattle.plcx_types.specs.Value.{Value}
use Rattle.plcx_meaning.specs.Base.{Path, same_path}
use Rattle.plcx_meaning.specs.Layout.{Leaf as Meant}
use Rattle.plcx_meaning.specs.Run.{Machine, Side, begin_side}
use Rattle.plcx_meaning.specs.Traces.{trace_with}
use Rattle.plcx_words.specs.Command.{Run}
use Rattle.plcx_state.specs.declared.layout.Leaf.{Leaf}
use Rattle.plcx_state.specs.Layouts.{meant, meant_path, all_meant}
use Rattle.plcx_state.specs.Retains.{at, kept_at, number_of}
use Rattle.plcx_state.specs.Tables.{IsPlain, HasPlainNames}
use Rattle.plcx_scan.specs.Texts.{trace_bytes}
use Rattle.plcx_traced.specs.Programs.{Programs}
use Rattle.plcx_traced.specs.Files.{Begins, TellsEvents, IsTraceOf, IsWrongRow, WhyNotBegun, WhyNotFollowed}
use Rattle.plcx_traced.specs.Runs.{Chosen, Begun, IsTraced, WhyNot, ComesTo, machine_of}
use Rattle.plcx_traced.specs.declared.error.RunError.{RunError}
use Rattle.plcx_traced.specs.declared.error.RunError.TheVariants.{NoProgram, RetainedRead, Line, EventsRead, Row, NoMemory}
use Rattle.plcx_traced.proofs.OneLines.{names_same}

-- leaves that mean the same have their numbers at the same paths
at_same : (xs ys : List Leaf) (ns : List ℤ) (p : Path) → all_meant xs ≡ all_meant ys → at xs ns p ≡ at ys ns p
at_same [] [] ns p e = refl
at_same [] (y ∷ ys) ns p e = absurd (cc)
at_same (x ∷ xs) [] ns p e = absurd (cc)
at_same (x ∷ xs) (y ∷ ys) [] p e = refl
at_same (x ∷ xs) (y ∷ ys) (n ∷ ns) p e =
    let first : meant x ≡ meant y = cc in
    let rest : all_meant xs ≡ all_meant ys = cc in
    ap₂ (λ q v. if same_path p q then n else v) (ap (λ (l : Meant). l.path) first) (at_same xs ys ns p rest)

pub kept_at_same : (xs ys : List Leaf) (kept : List (Option Value)) → all_meant xs ≡ all_meant ys → kept_at xs kept ≡ kept_at ys kept
kept_at_same xs ys kept e = fun_ext (λ p. at_same xs ys (map number_of kept) p e)

-- and names of the same form
pub plain_same : (xs ys : List Leaf) → all_meant xs ≡ all_meant ys → Each HasPlainNames xs → Each HasPlainNames ys
plain_same [] [] e h = tt
plain_same [] (y ∷ ys) e h = absurd (cc)
plain_same (x ∷ xs) [] e h = absurd (cc)
plain_same (x ∷ xs) (y ∷ ys) e h =
    let first : meant x ≡ meant y = cc in
    let rest : all_meant xs ≡ all_meant ys = cc in
    (subst (Each IsPlain) (names_same x y first) h.0, plain_same xs ys rest h.1)

-- of the same file, where more may have failed
pub followed_wider : (told same : Option (List ℕ)) → told ≡ same → (rose more : Type 0) → (rose → more) → (leaves : List Meant) (e : RunError) → WhyNotFollowed told rose leaves e → WhyNotFollowed same more leaves e
followed_wider told same eq rose more w leaves (NoProgram programs) h = h
followed_wider told same eq rose more w leaves RetainedRead h = h
followed_wider told same eq rose more w leaves (Line line) h = h
followed_wider told same eq rose more w leaves EventsRead h = w h
followed_wider told same eq rose more w leaves (Row row) h = subst (λ t. IsWrongRow t leaves row) eq h
followed_wider told same eq rose more w leaves NoMemory h = h

pub trace_wider : {G : Type 0} (told same : Option (List ℕ)) → told ≡ same → (m : Machine G) (turns : ℕ) (Old New : Side G → Type 0) (text : List ℕ) → IsTraceOf told m turns Old New text → IsTraceOf same m turns Old New text
trace_wider told same eq m turns Old New text h = subst (λ t. IsTraceOf t m turns Old New text) eq h

module _ {P G : Type 0} (ps : Programs P G) (told : List ℕ → Option (List ℕ)) (r : Run) where
  -- the side has the machine of the program, and stands for its side that begins with the retained state; its leaves are those of the program
  pub record IsOpened (b : Begun told ps r) (m : Machine G) (leaves : List Leaf) (Stands : Side G → Type 0) : Type 0 where
    pub machine : m ≡ machine_of b
    pub leaves_are : all_meant leaves ≡ (machine_of b).layout
    pub stands : Stands (begin_side (machine_of b) (kept_at leaves b.kept))

  module _ (b : Begun told ps r) (m : Machine G) (leaves : List Leaf) (Stands : Side G → Type 0) (opened : IsOpened b m leaves Stands) where
    own : all_meant leaves ≡ all_meant b.chosen.laid.leaves
    own = opened.leaves_are ∙ sym b.chosen.leaves_are

    stands_there : Stands (begin_side (machine_of b) (kept_at b.chosen.laid.leaves b.kept))
    stands_there = subst (λ (kept : Path → ℤ). Stands (begin_side (machine_of b) kept)) (kept_at_same leaves b.chosen.laid.leaves b.kept own) opened.stands

    pub traced_is : (New : Side G → Type 0) (text : List ℕ) → Each HasPlainNames leaves → IsTraceOf (told r.events) m r.turns Stands New text → IsTraced told ps r text
    traced_is New text plain t = by m opened.machine t
      where
        by : (k : Machine G) → k ≡ machine_of b → IsTraceOf (told r.events) k r.turns Stands New text → IsTraced told ps r text
        by k e h =
            let own_trace : IsTraceOf (told r.events) (machine_of b) r.turns Stands New text = subst (λ (x : Machine G). IsTraceOf (told r.events) x r.turns Stands New text) e h in
            record {
              course = record { begun = b; events = own_trace.events; tells = own_trace.tells };
              plain = plain_same leaves b.chosen.laid.leaves own plain;
              text_is = own_trace.trace (begin_side (machine_of b) (kept_at b.chosen.laid.leaves b.kept)) stands_there;
            }

    pub not_followed : (rose : List ℕ → Type 0) (e : RunError) → WhyNotFollowed (told r.events) (rose r.events) m.layout e → WhyNot told rose ps r e
    not_followed rose (NoProgram programs) h = absurd h
    not_followed rose RetainedRead h = absurd h
    not_followed rose (Line line) h = absurd h
    not_followed rose EventsRead h = (b, h)
    not_followed rose (Row row) h = (b, subst (λ (k : Machine G). WhyNotFollowed (told r.events) (rose r.events) k.layout (Row row)) opened.machine h)
    not_followed rose NoMemory h = tt

  kept_alone : (rose : List ℕ → Type 0) (leaves : List Leaf) (retain : Option (List ℕ)) (e : RunError) → WhyNotBegun told rose leaves retain e → (c : Chosen ps r) → leaves ≡ c.laid.leaves → retain ≡ r.retain → WhyNot told rose ps r e
  kept_alone rose leaves None e h c l n = subst (WhyNot told rose ps r) (sym h) tt
  kept_alone rose leaves (Some name) (NoProgram programs) h c l n = absurd h
  kept_alone rose leaves (Some name) RetainedRead h c l n = (c, subst (λ o. WhyNotBegun told rose c.laid.leaves o RetainedRead) n h)
  kept_alone rose leaves (Some name) (Line line) h c l n =
      (c, subst (λ o. WhyNotBegun told rose c.laid.leaves o (Line line)) n (subst (λ (ls : List Leaf). WhyNotBegun told rose ls (Some name) (Line line)) l h))
  kept_alone rose leaves (Some name) EventsRead h c l n = absurd h
  kept_alone rose leaves (Some name) (Row row) h c l n = absurd h
  kept_alone rose leaves (Some name) NoMemory h c l n = tt

  pub not_begun : (rose : List ℕ → Type 0) (c : Chosen ps r) (e : RunError) → WhyNotBegun told rose c.laid.leaves r.retain e → WhyNot told rose ps r e
  not_begun rose c e h = kept_alone rose c.laid.leaves r.retain e h c refl refl

  -- where more counts rose, a run comes to the same
  kept_wider : (rose more : List ℕ → Type 0) → ((name : List ℕ) → rose name → more name) → (leaves : List Leaf) (retain : Option (List ℕ)) → WhyNotBegun told rose leaves retain RetainedRead → WhyNotBegun told more leaves retain RetainedRead
  kept_wider rose more w leaves None h = h
  kept_wider rose more w leaves (Some name) h = w name h

  line_wider : (rose more : List ℕ → Type 0) (leaves : List Leaf) (retain : Option (List ℕ)) (line : ℕ) → WhyNotBegun told rose leaves retain (Line line) → WhyNotBegun told more leaves retain (Line line)
  line_wider rose more leaves None line h = h
  line_wider rose more leaves (Some name) line h = h

  pub not_wider : (rose more : List ℕ → Type 0) → ((name : List ℕ) → rose name → more name) → (e : RunError) → WhyNot told rose ps r e → WhyNot told more ps r e
  not_wider rose more w (NoProgram programs) h = h
  not_wider rose more w RetainedRead h = (h.0, kept_wider rose more w h.0.laid.leaves r.retain h.1)
  not_wider rose more w (Line line) h = (h.0, line_wider rose more h.0.laid.leaves r.retain line h.1)
  not_wider rose more w EventsRead h = (h.0, w r.events h.1)
  not_wider rose more w (Row row) h = h
  not_wider rose more w NoMemory h = tt
