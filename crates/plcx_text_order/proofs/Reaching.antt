-- One POU more is prepared, and one level more.
use Rattle.std.proofs.Common.{◌≡◌, ◌≢◌, ℕ, zero, suc, ◌+◌, ◌-◌, ◌<◌, ◌≤◌, ◌⊎◌, inl, inr, List, [], ◌∷◌, ◌++◌, length, length-append, map, set, Some, refl, sym, ap, ◌∙◌, subst, arith}
use Rattle.std.specs.Prelude.{slice_get}
use Rattle.std.proofs.lemmas.List.{length-set}
use Rattle.std.proofs.lemmas.Option.{same_Some, slice_get_within}
use Rattle.plcx_types.specs.Lists.{Each}
use Rattle.plcx_types.specs.Value.{Value}
use Rattle.plcx_meaning.specs.Tree.{PouText, statements}
use Rattle.plcx_meaning.specs.Layout.{variables_of}
use Rattle.plcx_runnable.proofs.Lists.{each_get}
use Rattle.plcx_text_steps.specs.declared.text.Entry.{Entry}
use Rattle.plcx_text_numbered.specs.Numbers.{temporary_values}
use Rattle.plcx_text_pieces.specs.Called.{numbers_of}
use Rattle.plcx_text_pieces.specs.Pieces.{Part, Piece, Start, after, boxed}
use Rattle.plcx_text_pieces.specs.Laws.{StandsIn}
use Rattle.plcx_text_pieces.proofs.Standing.{room_for}
use Rattle.plcx_text_order.specs.Made.{Made, owner, body_piece, start_at, level_of, IsMade, IsBefore, IsTaken, Reaches, AddsPou}
use Rattle.plcx_text_order.proofs.Growing.{get_front, get_behind, stands_more, stands_last, set_same, set_other, body_own}

last_or_before : (j k : ℕ) → j < k + 1 → (j < k) ⊎ (j ≡ k)
last_or_before zero zero h = inr refl
last_or_before zero (suc k) h = inl (omega arith)
last_or_before (suc j) zero h = absurd (omega arith)
last_or_before (suc j) (suc k) h = elim (last_or_before j k (omega arith)) [ inl l ↦ inl (omega arith) | inr e ↦ inr (ap suc e) ]

before_or_from : (j k : ℕ) → (j < k) ⊎ (k ≤ j)
before_or_from zero zero = inr (omega arith)
before_or_from zero (suc k) = inl (omega arith)
before_or_from (suc j) zero = inr (omega arith)
before_or_from (suc j) (suc k) = elim (before_or_from j k) [ inl l ↦ inl (omega arith) | inr l ↦ inr (omega arith) ]

-- the sections of a POU that is prepared are there
pub made_low : (unit : List PouText) (m : Made) (k : ℕ) (p : PouText) (h : IsMade unit m k p) → h.entry.section < length m.sections
made_low unit m k p h =
    let piece = body_piece (owner unit k p) h.start in
    let long = length-append piece.sections ((k, piece.lines) ∷ []) in
    let room = room_for m.sections h.start.sections (length piece.sections + 1) (boxed k piece).sections h.sections long in
    let e = h.section in
    omega arith

module _ (unit : List PouText) (level : ℕ) (m : Made) where
  -- ---- one POU more
  module _ (place : ℕ) (reached : Reaches unit level place m) (p : PouText) (there : slice_get unit place ≡ Some p) where
    -- one of another level
    pub passes : (level_of unit p ≡ level → ⊥) → Reaches unit level (place + 1) m
    passes other = record { count = reached.count; each = each; owned = owned }
      where
        earlier : (k : ℕ) (q : PouText) → slice_get unit k ≡ Some q → IsBefore unit level (place + 1) k q → IsBefore unit level place k q
        earlier k q is (inl low) = inl low
        earlier k q is (inr h) =
            elim (last_or_before k place h.1) [
              | inl l ↦ inr (h.0, l)
              | inr e ↦ absurd (other (ap (level_of unit) (same_Some p q (sym there ∙ ap (slice_get unit) (sym e) ∙ is)) ∙ h.0))
            ]

        each : (k : ℕ) (q : PouText) → slice_get unit k ≡ Some q → IsBefore unit level (place + 1) k q → IsMade unit m k q
        each k q is h = reached.each k q is (earlier k q is h)

        later : (k : ℕ) (q : PouText) → IsBefore unit level place k q → IsBefore unit level (place + 1) k q
        later k q (inl low) = inl low
        later k q (inr h) = let low = h.1 in inr (h.0, omega arith)

        owned : (j : ℕ) (x : Part) → slice_get m.sections j ≡ Some x → IsTaken unit level (place + 1) m j x.0
        owned j x h = let t = reached.owned j x h in record { p = t.p; is = t.is; before = later x.0 t.p t.before; made = t.made; from = t.from; to = t.to }

    -- one of this level
    module _ (its : level_of unit p ≡ level) (m' : Made) (adds : AddsPou (owner unit place p) m m') where
      abbrev temporaries : List Value
      temporaries = temporary_values (variables_of p.blocks)

      abbrev start : Start
      start = start_at m temporaries

      abbrev piece : Piece
      piece = body_piece (owner unit place p) start

      low : place < length m.entries
      low = let l = slice_get_within unit place p there in let c = reached.count in omega arith

      -- what was prepared before is none of it
      other_place : (k : ℕ) (q : PouText) → slice_get unit k ≡ Some q → IsBefore unit level place k q → k ≡ place → ⊥
      other_place k q is h e = by h
        where
          same : p ≡ q
          same = same_Some p q (sym there ∙ ap (slice_get unit) (sym e) ∙ is)

          by : IsBefore unit level place k q → ⊥
          by (inl l) = let s = ap (level_of unit) same in omega arith
          by (inr b) = let l = b.1 in omega arith

      stays : (k : ℕ) (q : PouText) → slice_get unit k ≡ Some q → IsBefore unit level place k q → IsMade unit m k q → IsMade unit m' k q
      stays k q is before h = record {
        start = h.start;
        temporaries = h.temporaries;
        entry = h.entry;
        begins = ap (λ es. slice_get es k) adds.entries ∙ set_other m.entries place k adds.entry (other_place k q is before) ∙ h.begins;
        wires = h.wires;
        section = h.section;
        arguments = subst (λ xs. StandsIn xs h.start.arguments (body_piece (owner unit k q) h.start).arguments) (sym adds.arguments) (stands_more m.arguments piece.arguments h.start.arguments _ h.arguments);
        bindings = subst (λ xs. StandsIn xs h.start.bindings (body_piece (owner unit k q) h.start).bindings) (sym adds.bindings) (stands_more m.bindings piece.bindings h.start.bindings _ h.bindings);
        sections = subst (λ xs. StandsIn xs h.start.sections (boxed k (body_piece (owner unit k q) h.start)).sections) (sym adds.sections) (stands_more m.sections (boxed place piece).sections h.start.sections _ h.sections);
        arms = subst (λ xs. StandsIn xs h.start.arms (body_piece (owner unit k q) h.start).arms) (sym adds.arms) (stands_more m.arms piece.arms h.start.arms _ h.arms);
        behind = behind;
      }
        where
          at_most : IsBefore unit level place k q → level_of unit q ≤ level
          at_most (inl l) = omega arith
          at_most (inr b) = let e = b.0 in omega arith

          behind : (j : ℕ) (r : PouText) (e : Entry) → slice_get unit j ≡ Some r → level_of unit r < level_of unit q → slice_get m'.entries j ≡ Some e → e.section < h.start.sections
          behind j r e at lower begins = h.behind j r e at lower (sym (ap (λ es. slice_get es j) adds.entries ∙ set_other m.entries place j adds.entry apart) ∙ begins)
            where
              apart : j ≡ place → ⊥
              apart s =
                  let same = ap (level_of unit) (same_Some p r (sym there ∙ ap (slice_get unit) (sym s) ∙ at)) in
                  let most = at_most before in
                  omega arith

      -- the new one
      made : IsMade unit m' place p
      made = record {
        start = start;
        temporaries = refl;
        entry = adds.entry;
        begins = ap (λ es. slice_get es place) adds.entries ∙ set_same m.entries place adds.entry low;
        wires = adds.wires;
        section = adds.section;
        arguments = subst (λ xs. StandsIn xs start.arguments piece.arguments) (sym adds.arguments) (stands_last m.arguments piece.arguments);
        bindings = subst (λ xs. StandsIn xs start.bindings piece.bindings) (sym adds.bindings) (stands_last m.bindings piece.bindings);
        sections = subst (λ xs. StandsIn xs start.sections (boxed place piece).sections) (sym adds.sections) (stands_last m.sections (boxed place piece).sections);
        arms = subst (λ xs. StandsIn xs start.arms piece.arms) (sym adds.arms) (stands_last m.arms piece.arms);
        behind = behind;
      }
        where
          behind : (j : ℕ) (r : PouText) (e : Entry) → slice_get unit j ≡ Some r → level_of unit r < level_of unit p → slice_get m'.entries j ≡ Some e → e.section < length m.sections
          behind j r e at lower begins =
              let h = reached.each j r at (inl (subst (λ n. level_of unit r < n) its lower)) in
              let old : slice_get m.entries j ≡ Some e = sym (ap (λ es. slice_get es j) adds.entries ∙ set_other m.entries place j adds.entry apart) ∙ begins in
              subst (λ (x : Entry). x.section < length m.sections) (same_Some h.entry e (sym h.begins ∙ old)) (made_low unit m j r h)
            where
              apart : j ≡ place → ⊥
              apart s = let same = ap (level_of unit) (same_Some p r (sym there ∙ ap (slice_get unit) (sym s) ∙ at)) in omega arith

      later : (k : ℕ) (q : PouText) → IsBefore unit level place k q → IsBefore unit level (place + 1) k q
      later k q (inl l) = inl l
      later k q (inr h) = let l = h.1 in inr (h.0, omega arith)

      each : (k : ℕ) (q : PouText) → slice_get unit k ≡ Some q → IsBefore unit level (place + 1) k q → IsMade unit m' k q
      each k q is (inl l) = stays k q is (inl l) (reached.each k q is (inl l))
      each k q is (inr h) =
          elim (last_or_before k place h.1) [
            | inl l ↦ stays k q is (inr (h.0, l)) (reached.each k q is (inr (h.0, l)))
            | inr e ↦ subst (λ n. IsMade unit m' n q) (sym e) (subst (IsMade unit m' place) (same_Some p q (sym there ∙ ap (slice_get unit) (sym e) ∙ is)) made)
          ]

      owned : (j : ℕ) (x : Part) → slice_get m'.sections j ≡ Some x → IsTaken unit level (place + 1) m' j x.0
      unfolding stays made
      owned j x h = elim (before_or_from j (length m.sections)) [ inl l ↦ old l | inr l ↦ new l ]
        where
          at : slice_get (m.sections ++ (boxed place piece).sections) j ≡ Some x
          at = ap (λ xs. slice_get xs j) (sym adds.sections) ∙ h

          old : j < length m.sections → IsTaken unit level (place + 1) m' j x.0
          old l =
              let t = reached.owned j x (sym (get_front m.sections (boxed place piece).sections j l) ∙ at) in
              record { p = t.p; is = t.is; before = later x.0 t.p t.before; made = stays x.0 t.p t.is t.before t.made; from = t.from; to = t.to }

          new : length m.sections ≤ j → IsTaken unit level (place + 1) m' j x.0
          new l =
              let i = j - length m.sections in
              let e : length m.sections + i ≡ j = omega arith in
              let inner : slice_get (boxed place piece).sections i ≡ Some x = sym (get_behind m.sections (boxed place piece).sections i) ∙ ap (slice_get (m.sections ++ (boxed place piece).sections)) e ∙ at in
              let own : x.0 ≡ place = each_get (λ (y : Part). y.0 ≡ place) (boxed place piece).sections (body_own (numbers_of (owner unit place p)) (statements p.body) start) i x inner in
              let most = slice_get_within (boxed place piece).sections i x inner in
              let long = length-append piece.sections ((place, piece.lines) ∷ []) in
              let last = adds.section in
              subst (IsTaken unit level (place + 1) m' j) (sym own)
              (record { p = p; is = there; before = inr (its, omega arith); made = made; from = l; to = omega arith })

      pub reaches : Reaches unit level (place + 1) m'
      reaches = record { count = ap length adds.entries ∙ length-set m.entries place adds.entry ∙ reached.count; each = each; owned = owned }

  -- ---- one level more
  pub next_level : Reaches unit level (length unit) m → Reaches unit (level + 1) 0 m
  next_level reached = record { count = reached.count; each = each; owned = owned }
    where
      earlier : (k : ℕ) (q : PouText) → slice_get unit k ≡ Some q → IsBefore unit (level + 1) 0 k q → IsBefore unit level (length unit) k q
      earlier k q is (inl l) = elim (last_or_before (level_of unit q) level l) [ inl a ↦ inl a | inr e ↦ inr (e, slice_get_within unit k q is) ]
      earlier k q is (inr h) = let l = h.1 in absurd (omega arith)

      each : (k : ℕ) (q : PouText) → slice_get unit k ≡ Some q → IsBefore unit (level + 1) 0 k q → IsMade unit m k q
      each k q is h = reached.each k q is (earlier k q is h)

      later : (k : ℕ) (q : PouText) → IsBefore unit level (length unit) k q → IsBefore unit (level + 1) 0 k q
      later k q (inl l) = inl (omega arith)
      later k q (inr h) = let e = h.0 in inl (omega arith)

      owned : (j : ℕ) (x : Part) → slice_get m.sections j ≡ Some x → IsTaken unit (level + 1) 0 m j x.0
      owned j x h = let t = reached.owned j x h in record { p = t.p; is = t.is; before = later x.0 t.p t.before; made = t.made; from = t.from; to = t.to }

-- nothing is prepared
pub reaches_none : (unit : List PouText) (m : Made) → length m.entries ≡ length unit → m.sections ≡ [] → Reaches unit 0 0 m
reaches_none unit m count none = record { count = count; each = each; owned = owned }
  where
    each : (k : ℕ) (q : PouText) → slice_get unit k ≡ Some q → IsBefore unit 0 0 k q → IsMade unit m k q
    each k q is (inl l) = absurd (omega arith)
    each k q is (inr h) = let l = h.1 in absurd (omega arith)

    owned : (j : ℕ) (x : Part) → slice_get m.sections j ≡ Some x → IsTaken unit 0 0 m j x.0
    owned j x h = absurd (nothing (ap (λ xs. slice_get xs j) (sym none) ∙ h))
      where
        nothing : slice_get [] j ≡ Some x → ⊥
        nothing e = cc
