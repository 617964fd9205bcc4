-- The types of groups by rounds: each round marks what comes from the marks of the round before. Where a round changes nothing, the marks are those of the closure.
use Rattle.std.proofs.Common.{◌≡◌, ℕ, zero, suc, ◌+◌, ◌*◌, ◌<◌, ◌⊎◌, ◌&&◌, ◌||◌, ◌++◌, inl, inr, Bool, true, false, List, [], Option, Some, None, map, length, get_or, nat_eq, refl, sym, ◌∙◌, ap, subst, arith}
use Rattle.std.specs.List.{Contains, list_any}
use Rattle.std.proofs.Math.ListN.{get_or-eq_default}
use Rattle.std.proofs.lemmas.Bool.{cases_lt}
use Rattle.std.proofs.lemmas.List.{get_or-append-add, length-append}
use Rattle.plcx_types.specs.declared.ty.Ty.{Ty}
use Rattle.plcx_types.specs.declared.ty.Ty.TheVariants as ty
use Rattle.plcx_types.specs.TypeName.{position_of_type, all_types}
use Rattle.plcx_funcs.specs.declared.pins.Class.{Class}
use Rattle.plcx_funcs.specs.declared.pins.Class.TheVariants as class
use Rattle.plcx_model.specs.declared.source.Source.{Source}
use Rattle.plcx_rules.specs.declared.form.Gives.{Gives}
use Rattle.plcx_rules.specs.declared.form.Gives.TheVariants.{Typed, Grouped, Untyped, Nothing}
use Rattle.plcx_rules.specs.Types.{Sheet, no_pin, pin_at, sources_at, gives_at, IsPinOf, Point, AtPin, AtGroup, AtOutput, HasType, DeclaredPin, DeclaredOutput, GroupOfSource, PinOfGroup, OutputOfGroup, LoneOfSource, LoneOfLiteral}
use Rattle.plcx_typing.specs.Closure.{is_marked}
use Rattle.plcx_typing.specs.Flows.{ArePlaced}
use Rattle.plcx_typing.specs.Tests.{AreMarks, gives_has, source_has}
use Rattle.plcx_typing.specs.Faults.{any_below}
use Rattle.plcx_typing.proofs.Deciding.{same_decides, nat_decides, any_decides}

-- ---- marks by rows

-- the marks of n elements from one on
abbrev pub rows : (ℕ → Ty → Bool) → ℕ → ℕ → List Bool
rows f e zero = []
rows f e (suc n) = map (f e) all_types ++ rows f (suc e) n

module _ (f : ℕ → Ty → Bool) where
  here : (e n : ℕ) (t : Ty) → get_or (map (f e) all_types ++ rows f (suc e) n) (position_of_type t) false ≡ f e t
  here e n ty.Bool = refl
  here e n ty.Byte = refl
  here e n ty.Word = refl
  here e n ty.Dword = refl
  here e n ty.Lword = refl
  here e n ty.Sint = refl
  here e n ty.Int = refl
  here e n ty.Dint = refl
  here e n ty.Lint = refl
  here e n ty.Usint = refl
  here e n ty.Uint = refl
  here e n ty.Udint = refl
  here e n ty.Ulint = refl
  here e n ty.Time = refl

  row_in : (e n j : ℕ) (t : Ty) → j < n → get_or (rows f e n) (14 * j + position_of_type t) false ≡ f (e + j) t
  row_in e zero j t low = absurd (omega arith)
  row_in e (suc n) zero t low =
      let start : 14 * 0 + position_of_type t ≡ position_of_type t = omega arith in
      let same : e ≡ e + 0 = omega arith in
      ap (λ k. get_or (rows f e (suc n)) k false) start ∙ (here e n t ∙ ap (λ k. f k t) same)
  row_in e (suc n) (suc j) t low =
      let step : 14 * suc j + position_of_type t ≡ 14 + (14 * j + position_of_type t) = omega arith in
      let same : suc e + j ≡ e + suc j = omega arith in
      ap (λ k. get_or (rows f e (suc n)) k false) step
      ∙ (get_or-append-add (map (f e) all_types) (rows f (suc e) n) (14 * j + position_of_type t) false ∙ (row_in (suc e) n j t (omega arith) ∙ ap (λ k. f k t) same))

  row_count : (e n : ℕ) → length (rows f e n) ≡ 14 * n
  row_count e zero = refl
  row_count e (suc n) = omega (arith, length-append (map (f e) all_types) (rows f (suc e) n), row_count (suc e) n)

  first_in : (n e : ℕ) (t : Ty) → e < n → is_marked (rows f 0 n) e t ≡ f e t
  first_in n e t low = let same : 0 + e ≡ e = omega arith in row_in 0 n e t low ∙ ap (λ k. f k t) same

  -- a mark is that of its element and type
  pub row_mark : (n e : ℕ) (t : Ty) → is_marked (rows f 0 n) e t ≡ true → f e t ≡ true
  row_mark n e t h = elim (cases_lt e n) [
    | inl low ↦ sym (first_in n e t low) ∙ h
    | inr high ↦ let none : is_marked (rows f 0 n) e t ≡ false = get_or-eq_default (rows f 0 n) false (omega (arith, row_count 0 n)) in let no : false ≡ true = sym none ∙ h in absurd (cc)
  ]

  pub mark_row : (n e : ℕ) (t : Ty) → e < n → f e t ≡ true → is_marked (rows f 0 n) e t ≡ true
  mark_row n e t low h = first_in n e t low ∙ h

-- ---- rounds

abbrev pub is_group : Option Class → Bool
is_group (Some class.Group) = true
is_group (Some class.Lone) = false
is_group (Some (class.Fixed t)) = false
is_group None = false

-- a type comes to an element from a source at one of its group pins
abbrev pub comes_at : Sheet → List Bool → ℕ → Ty → ℕ → Bool
comes_at s marks e t i = nat_eq (pin_at s i).element e && (is_group (pin_at s i).class && list_any (source_has s marks t) (sources_at s i))

abbrev pub comes : Sheet → List Bool → ℕ → Ty → Bool
comes s marks e t = any_below (comes_at s marks e t) (length s.pins)

abbrev pub round : Sheet → List Bool → List Bool
round s marks = rows (comes s marks) 0 (length s.forms)

abbrev pub rounds : Sheet → ℕ → List Bool
rounds s zero = []
rounds s (suc k) = round s (rounds s k)

-- ---- what they mark

group_so : (c : Option Class) → is_group c ≡ true → c ≡ Some class.Group
group_so (Some class.Group) h = refl
group_so (Some class.Lone) h = let e : false ≡ true = h in absurd (cc)
group_so (Some (class.Fixed t)) h = let e : false ≡ true = h in absurd (cc)
group_so None h = let e : false ≡ true = h in absurd (cc)

both : (a b : Bool) → (a && b) ≡ true → (a ≡ true) × (b ≡ true)
both true b h = (refl, h)
both false b h = let e : false ≡ true = h in absurd (cc)

joined : (a b : Bool) → a ≡ true → b ≡ true → (a && b) ≡ true
joined a b h k = ap (λ x. x && b) h ∙ k

below_one : (p : ℕ → Bool) (n : ℕ) → any_below p n ≡ true → (k : ℕ) × ((k < n) × (p k ≡ true))
below_one p zero h = let e : false ≡ true = h in absurd (cc)
below_one p (suc n) h = elim (whether (any_below p n) (p n) h) [
  | inl before ↦ let rest = below_one p n before in (rest.0, (omega (arith, rest.1.0), rest.1.1))
  | inr last ↦ (n, (omega arith, last))
]
  where
    whether : (a b : Bool) → (a || b) ≡ true → (a ≡ true) ⊎ (b ≡ true)
    whether true b h = inl refl
    whether false b h = inr h

one_below : (p : ℕ → Bool) (n k : ℕ) → k < n → p k ≡ true → any_below p n ≡ true
one_below p zero k low h = absurd (omega arith)
one_below p (suc n) k low h = elim (cases_lt k n) [
  | inl less ↦ ap (λ x. x || p n) (one_below p n k less h)
  | inr more ↦ let same : k ≡ n = omega arith in last (any_below p n) (ap p (sym same) ∙ h)
]
  where
    last : (a : Bool) → p n ≡ true → (a || p n) ≡ true
    last true is = refl
    last false is = is

module _ (s : Sheet) where
  -- each mark is a type that the group has
  abbrev pub AreSound : List Bool → Type 0
  AreSound marks = (e : ℕ) (t : Ty) → is_marked marks e t ≡ true → HasType s (AtGroup e) t

  module _ (marks : List Bool) (sound : AreSound marks) where
    gives_so : (o : Source) (t : Ty) (g : Gives) → gives_at s o ≡ g → gives_has marks o.element g t ≡ true → HasType s (AtOutput o) t
    gives_so o t (Typed u) is h = DeclaredOutput (is ∙ ap Typed ((same_decides u t).0 h))
    gives_so o t Grouped is h = OutputOfGroup refl is (sound o.element t h)
    gives_so o t (Untyped n) is h = let e : false ≡ true = h in absurd (cc)
    gives_so o t Nothing is h = let e : false ≡ true = h in absurd (cc)

    pub comes_so : (e : ℕ) (t : Ty) → comes s marks e t ≡ true → HasType s (AtGroup e) t
    comes_so e t h =
        let found = below_one (comes_at s marks e t) (length s.pins) h in
        let i = found.0 in
        let own = both (nat_eq (pin_at s i).element e) (is_group (pin_at s i).class && list_any (source_has s marks t) (sources_at s i)) found.1.1 in
        let fed = both (is_group (pin_at s i).class) (list_any (source_has s marks t) (sources_at s i)) own.1 in
        let source = (any_decides (source_has s marks t) (λ o. source_has s marks t o ≡ true) (λ o. ((λ k. k), (λ k. k))) (sources_at s i)).0 fed.1 in
        GroupOfSource (record { count = found.1.0; owner = (nat_decides (pin_at s i).element e).0 own.0 }) (group_so (pin_at s i).class fed.0) source.1 (gives_so source.0 t (gives_at s source.0) refl source.2)

    round_sound : AreSound (round s marks)
    round_sound e t h = comes_so e t (row_mark (comes s marks) (length s.forms) e t h)

  pub rounds_sound : (k : ℕ) → AreSound (rounds s k)
  rounds_sound zero e t h = let no : false ≡ true = h in absurd (cc)
  rounds_sound (suc k) e t h = round_sound (rounds s k) (rounds_sound k) e t h

  -- where a round changes nothing, each type that a group has is marked
  module _ (placed : ArePlaced (length s.forms) s.pins) (marks : List Bool) (settled : round s marks ≡ marks) where
    abbrev Says : Point → Ty → Type 0
    Says (AtPin i) t = Unit {0}
    Says (AtGroup e) t = is_marked marks e t ≡ true
    Says (AtOutput o) t = source_has s marks t o ≡ true

    comes_marked : (e i : ℕ) (o : Source) (t : Ty) → IsPinOf s e i → (pin_at s i).class ≡ Some class.Group → Contains (sources_at s i) o → source_has s marks t o ≡ true → is_marked marks e t ≡ true
    comes_marked e i o t pin group there has =
        let fed = (any_decides (source_has s marks t) (λ p. source_has s marks t p ≡ true) (λ p. ((λ k. k), (λ k. k))) (sources_at s i)).1 (o, there, has) in
        let at : comes_at s marks e t i ≡ true =
        joined (nat_eq (pin_at s i).element e) (is_group (pin_at s i).class && list_any (source_has s marks t) (sources_at s i)) ((nat_decides (pin_at s i).element e).1 pin.owner)
        (joined (is_group (pin_at s i).class) (list_any (source_has s marks t) (sources_at s i)) (ap is_group group) fed) in
        let low : e < length s.forms = subst (λ x. x < length s.forms) pin.owner (placed i no_pin pin.count) in
        ap (λ m. is_marked m e t) (sym settled) ∙ mark_row (comes s marks) (length s.forms) e t low (one_below (comes_at s marks e t) (length s.pins) i pin.count at)

    says : (p : Point) (t : Ty) → HasType s p t → Says p t
    says p t (DeclaredPin low is) = tt
    says p t (DeclaredOutput {o = o} is) = ap (λ g. gives_has marks o.element g t) is ∙ (same_decides t t).1 refl
    says p t (GroupOfSource {e = e} {i = i} {o = o} pin group there has) = comes_marked e i o t pin group there (says (AtOutput o) t has)
    says p t (PinOfGroup pin group has) = tt
    says p t (OutputOfGroup {e = e} {o = o} own gives has) = ap (λ g. gives_has marks o.element g t) gives ∙ (ap (λ x. is_marked marks x t) own ∙ says (AtGroup e) t has)
    says p t (LoneOfSource low lone there has) = tt
    says p t (LoneOfLiteral low lone there untyped) = tt

    pub are_marks : AreSound marks → AreMarks s marks
    are_marks sound e t = (sound e t, says (AtGroup e) t)
