-- The tests decide what they test: which types points have, and the rules at pins and elements.
use Rattle.std.proofs.Common.{◌≡◌, ◌≢◌, ℕ, suc, ◌<◌, ◌≤◌, ◌⊎◌, ◌&&◌, ◌||◌, inl, inr, Bool, true, false, not, if◌then◌else◌, ℤ, ◌≤ℤ◌, List, [], ◌∷◌, Option, Some, None, length, get_or, nat_le, nat_eq, refl, sym, ◌∙◌, ap, subst, arith}
use Rattle.std.specs.Bool.{Decides}
use Rattle.std.specs.List.{Contains, list_any}
use Rattle.std.proofs.lemmas.Bool.Decides.{nat_tests, Decides-at, Decides-and, Decides-or, Decides-not, Decides-like}
use Rattle.std.proofs.Math.ListN.{get_or-eq_default}
use Rattle.std.proofs.lemmas.Bool.{cases_lt}
use Rattle.std.proofs.lemmas.List.{get_or_default}
use Rattle.std.proofs.lemmas.List.Elements.{Contains-get_or}
use Rattle.std.proofs.lemmas.List.Folds.{list_any_at}
use Rattle.std.specs.Int.Signed.{le_z}
use Rattle.std.proofs.lemmas.Int.{ints}
use Rattle.plcx_types.specs.declared.ty.Ty.{Ty}
use Rattle.plcx_types.specs.declared.ty.Ty.TheVariants as ty
use Rattle.plcx_types.specs.Range.{bounds_of, InRange, fits}
use Rattle.plcx_types.specs.TypeName.{same_ty, position_of_type, all_types}
use Rattle.plcx_funcs.specs.declared.allowed.Allowed.{Allowed}
use Rattle.plcx_funcs.specs.declared.pins.Class.{Class}
use Rattle.plcx_funcs.specs.declared.pins.Class.TheVariants as class
use Rattle.plcx_funcs.specs.Types.{is_allowed, is_whole, is_bool, is_time}
use Rattle.plcx_model.specs.declared.source.Source.{Source}
use Rattle.plcx_rules.specs.declared.form.Gives.{Gives}
use Rattle.plcx_rules.specs.declared.form.Gives.TheVariants.{Typed, Grouped, Untyped, Nothing}
use Rattle.plcx_rules.specs.declared.form.Out.{Out}
use Rattle.plcx_rules.specs.declared.form.Outputs.{Outputs}
use Rattle.plcx_rules.specs.declared.form.Outputs.TheVariants.{Absent, Single, Listed}
use Rattle.plcx_rules.specs.declared.form.Grouping.{Grouping}
use Rattle.plcx_rules.specs.declared.form.Grouping.TheVariants.{Apart, Function, Passing}
use Rattle.plcx_rules.specs.Types.{Sheet, no_out, pin_at, form_at, sources_at, output_among, output_at, gives_at, is_untyped, IsPinOf, AtPin, AtGroup, AtOutput, HasType, DeclaredPin, DeclaredOutput, GroupOfSource, PinOfGroup, OutputOfGroup, LoneOfSource, LoneOfLiteral, TakenAt}
use Rattle.plcx_rules.specs.TypingRules.{HasNoType}
use Rattle.plcx_typing.specs.Closure.{is_marked}
use Rattle.plcx_typing.specs.Tests.{AreMarks, gives_has, source_has, is_literal, lone_has, class_has, pin_has, is_lone, is_barred, pin_disagrees_at, pin_disagrees, is_apart, is_passing, bars, has_other, group_disagrees_at, operand_disagrees, out_disagrees, outputs_disagree, form_disagrees, has_no_type, taken_has, only, literal_disagrees, number_outside, literal_outside}
use Rattle.plcx_typing.proofs.Searching.{same_position}

pub nat_decides : (a b : ℕ) → Decides (nat_eq a b) (a ≡ b)
nat_decides a b = ((λ h. grind (arith, nat_tests)), (λ e. grind (arith, nat_tests)))

pub le_decides : (a b : ℕ) → Decides (nat_le a b) (a ≤ b)
le_decides a b = ((λ h. grind (arith, nat_tests)), (λ e. grind (arith, nat_tests)))

z_decides : (a b : ℤ) → Decides (le_z a b) (a ≤ℤ b)
z_decides a b = ((λ h. grind (arith, ints)), (λ e. grind (arith, ints)))

pub same_decides : (t u : Ty) → Decides (same_ty t u) (t ≡ u)
same_decides t u = Decides-like (same_ty t u) (same_position t u) (λ e. ap position_of_type e) (nat_decides (position_of_type t) (position_of_type u))

bool_by : (t : Ty) → is_bool t ≡ same_ty t ty.Bool
bool_by ty.Bool = refl
bool_by ty.Byte = refl
bool_by ty.Word = refl
bool_by ty.Dword = refl
bool_by ty.Lword = refl
bool_by ty.Sint = refl
bool_by ty.Int = refl
bool_by ty.Dint = refl
bool_by ty.Lint = refl
bool_by ty.Usint = refl
bool_by ty.Uint = refl
bool_by ty.Udint = refl
bool_by ty.Ulint = refl
bool_by ty.Time = refl

time_by : (t : Ty) → is_time t ≡ same_ty t ty.Time
time_by ty.Bool = refl
time_by ty.Byte = refl
time_by ty.Word = refl
time_by ty.Dword = refl
time_by ty.Lword = refl
time_by ty.Sint = refl
time_by ty.Int = refl
time_by ty.Dint = refl
time_by ty.Lint = refl
time_by ty.Usint = refl
time_by ty.Uint = refl
time_by ty.Udint = refl
time_by ty.Ulint = refl
time_by ty.Time = refl

pub bool_decides : (t : Ty) → Decides (is_bool t) (t ≡ ty.Bool)
bool_decides t = Decides-at (is_bool t) (same_ty t ty.Bool) (bool_by t) (same_decides t ty.Bool)

pub time_decides : (t : Ty) → Decides (is_time t) (t ≡ ty.Time)
time_decides t = Decides-at (is_time t) (same_ty t ty.Time) (time_by t) (same_decides t ty.Time)

pub no_bool_decides : (t : Ty) → Decides (not (is_bool t)) (t ≢ ty.Bool)
no_bool_decides t = Decides-not (is_bool t) (bool_decides t)

pub on_decides : (b : Bool) → Decides b (b ≡ true)
on_decides b = ((λ h. h), (λ h. h))

pub off_decides : (b : Bool) → Decides (not b) (b ≡ false)
off_decides true = ((λ h. cc), (λ h. cc))
off_decides false = ((λ h. refl), (λ h. refl))

pub never : {P : Type 0} → (P → ⊥) → Decides false P
never f = ((λ h. let e : false ≡ true = h in absurd (cc)), (λ p. absurd (f p)))

-- ---- some item of a list

abbrev Some-in : {X : Type 0} → (X → Type 0) → List X → Type 0
Some-in {X} P xs = (x : X) × Contains xs x × P x

further : {X : Type 0} (P : X → Type 0) (y : X) (xs : List X) → Some-in P xs → Some-in P (y ∷ xs)
further P y xs h = (h.0, (suc h.1.0, omega (arith, h.1.1), h.1.2), h.2)

found_in : {X : Type 0} (p : X → Bool) (P : X → Type 0) → ((x : X) → p x ≡ true → P x) → (xs : List X) → list_any p xs ≡ true → Some-in P xs
found_in p P each [] h = let e : false ≡ true = h in absurd (cc)
found_in {X} p P each (x ∷ xs) h = first (found_in p P each xs) (p x) refl h
  where
    first : (list_any p xs ≡ true → Some-in P xs) → (b : Bool) → p x ≡ b → (b || list_any p xs) ≡ true → Some-in P (x ∷ xs)
    first rest true is g = (x, (0, omega arith, refl), each x is)
    first rest false is g = further P x xs (rest g)

pub any_decides : {X : Type 0} (p : X → Bool) (P : X → Type 0) → ((x : X) → Decides (p x) (P x)) → (xs : List X) → Decides (list_any p xs) ((x : X) × Contains xs x × P x)
any_decides p P each xs = (found_in p P (λ x. (each x).0) xs, (λ h. list_any_at p xs h.1.0 h.0 h.1.1 (ap p h.1.2 ∙ (each h.0).1 h.2)))

pub type_listed : (t : Ty) → Contains all_types t
type_listed ty.Bool = (0, omega arith, refl)
type_listed ty.Byte = (1, omega arith, refl)
type_listed ty.Word = (2, omega arith, refl)
type_listed ty.Dword = (3, omega arith, refl)
type_listed ty.Lword = (4, omega arith, refl)
type_listed ty.Sint = (5, omega arith, refl)
type_listed ty.Int = (6, omega arith, refl)
type_listed ty.Dint = (7, omega arith, refl)
type_listed ty.Lint = (8, omega arith, refl)
type_listed ty.Usint = (9, omega arith, refl)
type_listed ty.Uint = (10, omega arith, refl)
type_listed ty.Udint = (11, omega arith, refl)
type_listed ty.Ulint = (12, omega arith, refl)
type_listed ty.Time = (13, omega arith, refl)

pub any_type : (p : Ty → Bool) (P : Ty → Type 0) → ((t : Ty) → Decides (p t) (P t)) → Decides (list_any p all_types) ((t : Ty) × P t)
any_type p P each = Decides-like (list_any p all_types) (λ h. (h.0, h.2)) (λ h. (h.0, type_listed h.0, h.1)) (any_decides p P each all_types)

-- ---- which types a point has

module _ (s : Sheet) where
  pub output_inverse : (o : Source) (t : Ty) → HasType s (AtOutput o) t → (gives_at s o ≡ Typed t) ⊎ ((gives_at s o ≡ Grouped) × HasType s (AtGroup o.element) t)
  output_inverse o t (DeclaredOutput is) = inl is
  output_inverse o t (OutputOfGroup {e} is gives has) = inr (gives, subst (λ x. HasType s (AtGroup x) t) (sym is) has)

  -- why a pin has a type
  pub data WhyPin (i : ℕ) (t : Ty) : Type 0 where
    ByFixed : (pin_at s i).class ≡ Some (class.Fixed t) → WhyPin i t
    ByGroup : (pin_at s i).class ≡ Some class.Group → HasType s (AtGroup (pin_at s i).element) t → WhyPin i t
    BySource : (o : Source) → (pin_at s i).class ≡ Some class.Lone → Contains (sources_at s i) o → HasType s (AtOutput o) t → WhyPin i t
    ByLiteral : (o : Source) → (pin_at s i).class ≡ Some class.Lone → Contains (sources_at s i) o → is_untyped (gives_at s o) ≡ true → t ≡ ty.Dint → WhyPin i t

  pub pin_inverse : (i : ℕ) (t : Ty) → HasType s (AtPin i) t → WhyPin i t
  pin_inverse i t (DeclaredPin low is) = ByFixed is
  pin_inverse i t (PinOfGroup {e} pin is has) = ByGroup is (subst (λ x. HasType s (AtGroup x) t) (sym pin.owner) has)
  pin_inverse i t (LoneOfSource {i = _} {o = o} low is there has) = BySource o is there has
  pin_inverse i t (LoneOfLiteral {i = _} {o = o} low is there untyped) = ByLiteral o is there untyped refl

  -- why a group has one
  pub group_inverse : (e : ℕ) (t : Ty) → HasType s (AtGroup e) t → (i : ℕ) × (o : Source) × IsPinOf s e i × ((pin_at s i).class ≡ Some class.Group) × Contains (sources_at s i) o × HasType s (AtOutput o) t
  group_inverse e t (GroupOfSource {e = _} {i = i} {o = o} pin is there has) = (i, o, pin, is, there, has)

  module _ (marks : List Bool) (are : AreMarks s marks) where
    gives_decides : (o : Source) (t : Ty) (g : Gives) → gives_at s o ≡ g → Decides (gives_has marks o.element g t) (HasType s (AtOutput o) t)
    gives_decides o t (Typed u) is = Decides-like (same_ty u t) (λ e. DeclaredOutput (is ∙ ap Typed e)) (λ has. elim (output_inverse o t has) [
      | inl typed ↦ let e : Typed u ≡ Typed t = sym is ∙ typed in cc
      | inr both ↦ let e : Typed u ≡ Grouped = sym is ∙ both.0 in absurd (cc)
    ]) (same_decides u t)
    gives_decides o t Grouped is = Decides-like (is_marked marks o.element t) (λ has. OutputOfGroup refl is has) (λ has. elim (output_inverse o t has) [
      | inl typed ↦ let e : Grouped ≡ Typed t = sym is ∙ typed in absurd (cc)
      | inr both ↦ both.1
    ]) (are o.element t)
    gives_decides o t (Untyped n) is = never (λ has. elim (output_inverse o t has) [
      | inl typed ↦ let e : Untyped n ≡ Typed t = sym is ∙ typed in absurd (cc)
      | inr both ↦ let e : Untyped n ≡ Grouped = sym is ∙ both.0 in absurd (cc)
    ])
    gives_decides o t Nothing is = never (λ has. elim (output_inverse o t has) [
      | inl typed ↦ let e : Nothing ≡ Typed t = sym is ∙ typed in absurd (cc)
      | inr both ↦ let e : Nothing ≡ Grouped = sym is ∙ both.0 in absurd (cc)
    ])

    pub source_decides : (t : Ty) (o : Source) → Decides (source_has s marks t o) (HasType s (AtOutput o) t)
    source_decides t o = gives_decides o t (gives_at s o) refl

    pub any_source : (i : ℕ) (t : Ty) → Decides (list_any (source_has s marks t) (sources_at s i)) ((o : Source) × Contains (sources_at s i) o × HasType s (AtOutput o) t)
    any_source i t = any_decides (source_has s marks t) (λ o. HasType s (AtOutput o) t) (source_decides t) (sources_at s i)

    class_decides : (i : ℕ) (t : Ty) (c : Option Class) → i < length s.pins → (pin_at s i).class ≡ c → Decides (class_has s marks (pin_at s i).element c (sources_at s i) t) (HasType s (AtPin i) t)
    class_decides i t (Some (class.Fixed u)) low is = Decides-like (same_ty u t) (λ e. DeclaredPin low (is ∙ ap (λ x. Some (class.Fixed x)) e)) (λ has. elim (pin_inverse i t has) [
      | ByFixed e ↦ let f : Some (class.Fixed u) ≡ Some (class.Fixed t) = sym is ∙ e in cc
      | ByGroup e h ↦ let f : Some (class.Fixed u) ≡ Some class.Group = sym is ∙ e in absurd (cc)
      | BySource o e h k ↦ let f : Some (class.Fixed u) ≡ Some class.Lone = sym is ∙ e in absurd (cc)
      | ByLiteral o e h k d ↦ let f : Some (class.Fixed u) ≡ Some class.Lone = sym is ∙ e in absurd (cc)
    ]) (same_decides u t)
    class_decides i t (Some class.Group) low is = Decides-like (is_marked marks (pin_at s i).element t) (λ has. PinOfGroup (record { count = low; owner = refl }) is has) (λ has. elim (pin_inverse i t has) [
      | ByFixed e ↦ let f : Some class.Group ≡ Some (class.Fixed t) = sym is ∙ e in absurd (cc)
      | ByGroup e h ↦ h
      | BySource o e h k ↦ let f : Some class.Group ≡ Some class.Lone = sym is ∙ e in absurd (cc)
      | ByLiteral o e h k d ↦ let f : Some class.Group ≡ Some class.Lone = sym is ∙ e in absurd (cc)
    ]) (are (pin_at s i).element t)
    class_decides i t (Some class.Lone) low is =
        let sources = sources_at s i in
        let literal = any_decides (is_literal s) (λ o. is_untyped (gives_at s o) ≡ true) (λ o. on_decides (is_untyped (gives_at s o))) sources in
        Decides-like (lone_has s marks sources t) (λ h. elim h [
          | inl a ↦ LoneOfSource low is a.1 a.2
          | inr b ↦ subst (HasType s (AtPin i)) b.0 (LoneOfLiteral low is b.1.1 b.1.2)
        ]) (λ has. elim (pin_inverse i t has) [
          | ByFixed e ↦ let f : Some class.Lone ≡ Some (class.Fixed t) = sym is ∙ e in absurd (cc)
          | ByGroup e h ↦ let f : Some class.Lone ≡ Some class.Group = sym is ∙ e in absurd (cc)
          | BySource o e h k ↦ inl (o, h, k)
          | ByLiteral o e h k d ↦ inr (sym d, (o, h, k))
        ]) (Decides-or (list_any (source_has s marks t) sources) (same_ty ty.Dint t && list_any (is_literal s) sources) (any_source i t) (Decides-and (same_ty ty.Dint t) (list_any (is_literal s) sources) (same_decides ty.Dint t) literal))
    class_decides i t None low is = never (λ has. elim (pin_inverse i t has) [
      | ByFixed e ↦ let f : None ≡ Some (class.Fixed t) = sym is ∙ e in absurd (cc)
      | ByGroup e h ↦ let f : None ≡ Some class.Group = sym is ∙ e in absurd (cc)
      | BySource o e h k ↦ let f : None ≡ Some class.Lone = sym is ∙ e in absurd (cc)
      | ByLiteral o e h k d ↦ let f : None ≡ Some class.Lone = sym is ∙ e in absurd (cc)
    ])

    pub pin_decides : (i : ℕ) (t : Ty) → i < length s.pins → Decides (pin_has s marks (pin_at s i) (sources_at s i) t) (HasType s (AtPin i) t)
    pin_decides i t low = class_decides i t (pin_at s i).class low refl

-- ---- rule 35 at a pin

abbrev Barred : Sheet → ℕ → Ty → Type 0
Barred s i t = (((pin_at s i).class ≡ Some class.Lone) × (is_whole t ≡ false))
    ⊎ (((t ≡ ty.Time) × ((o : Source) × Contains (sources_at s i) o × (is_untyped (gives_at s o) ≡ true)))
    ⊎ ((t ≢ ty.Bool) × (((pin_at s i).modified ≡ true) ⊎ (2 ≤ length (sources_at s i)))))

-- types disagree at the pin, by this type
abbrev pub PinFault : Sheet → ℕ → Ty → Type 0
PinFault s i t = (((o : Source) × Contains (sources_at s i) o × HasType s (AtOutput o) t) × (HasType s (AtPin i) t → ⊥)) ⊎ (HasType s (AtPin i) t × Barred s i t)

lone_decides : (c : Option Class) → Decides (is_lone c) (c ≡ Some class.Lone)
lone_decides (Some class.Lone) = ((λ h. refl), (λ h. refl))
lone_decides (Some class.Group) = never (λ e. cc)
lone_decides (Some (class.Fixed t)) = never (λ e. cc)
lone_decides None = never (λ e. cc)

module _ (s : Sheet) (marks : List Bool) (are : AreMarks s marks) where
  literal_decides : (i : ℕ) → Decides (list_any (is_literal s) (sources_at s i)) ((o : Source) × Contains (sources_at s i) o × (is_untyped (gives_at s o) ≡ true))
  literal_decides i = any_decides (is_literal s) (λ o. is_untyped (gives_at s o) ≡ true) (λ o. on_decides (is_untyped (gives_at s o))) (sources_at s i)

  barred_decides : (i : ℕ) (t : Ty) → Decides (is_barred s (pin_at s i) (sources_at s i) t) (Barred s i t)
  barred_decides i t =
      let p = pin_at s i in
      let sources = sources_at s i in
      Decides-or (is_lone p.class && not (is_whole t)) ((is_time t && list_any (is_literal s) sources) || (not (is_bool t) && (p.modified || nat_le 2 (length sources))))
      (Decides-and (is_lone p.class) (not (is_whole t)) (lone_decides p.class) (off_decides (is_whole t)))
      (Decides-or (is_time t && list_any (is_literal s) sources) (not (is_bool t) && (p.modified || nat_le 2 (length sources)))
      (Decides-and (is_time t) (list_any (is_literal s) sources) (time_decides t) (literal_decides i))
      (Decides-and (not (is_bool t)) (p.modified || nat_le 2 (length sources)) (no_bool_decides t) (Decides-or p.modified (nat_le 2 (length sources)) (on_decides p.modified) (le_decides 2 (length sources)))))

  fault_decides : (i : ℕ) (t : Ty) → i < length s.pins → Decides (pin_disagrees_at s marks (pin_at s i) (sources_at s i) t) (PinFault s i t)
  fault_decides i t low =
      let p = pin_at s i in
      let sources = sources_at s i in
      let has = pin_has s marks p sources t in
      let any = list_any (source_has s marks t) sources in
      Decides-or (any && not has) (has && is_barred s p sources t)
      (Decides-and any (not has) (any_source s marks are i t) (Decides-not has (pin_decides s marks are i t low)))
      (Decides-and has (is_barred s p sources t) (pin_decides s marks are i t low) (barred_decides i t))

  pub pin_fault_decides : (i : ℕ) → i < length s.pins → Decides (pin_disagrees s marks (pin_at s i) (sources_at s i)) ((t : Ty) × PinFault s i t)
  pin_fault_decides i low = any_type (pin_disagrees_at s marks (pin_at s i) (sources_at s i)) (PinFault s i) (λ t. fault_decides i t low)

  -- ---- rules 34 and 35 at an element

  apart_decides : (g : Grouping) → Decides (not (is_apart g)) (g ≢ Apart)
  apart_decides Apart = never (λ f. f refl)
  apart_decides (Function allowed) = ((λ h e. cc), (λ h. refl))
  apart_decides Passing = ((λ h e. cc), (λ h. refl))

  passing_decides : (g : Grouping) → Decides (not (is_passing g)) (g ≢ Passing)
  passing_decides Passing = never (λ f. f refl)
  passing_decides (Function allowed) = ((λ h e. cc), (λ h. refl))
  passing_decides Apart = ((λ h e. cc), (λ h. refl))

  bars_decides : (g : Grouping) (t : Ty) → Decides (bars g t) ((allowed : Allowed) × (g ≡ Function allowed) × (is_allowed allowed t ≡ false))
  bars_decides Apart t = never (λ h. let e = h.1 in absurd (cc))
  bars_decides (Function allowed) t = Decides-like (not (is_allowed allowed t)) (λ h. (allowed, refl, h)) (λ h. let e : allowed ≡ h.0 = (let f = h.1 in cc) in ap (λ a. is_allowed a t) e ∙ h.2) (off_decides (is_allowed allowed t))
  bars_decides Passing t = never (λ h. let e = h.1 in absurd (cc))

  pub no_type_decides : (e : ℕ) → Decides (has_no_type marks e (form_at s e).grouping) (HasNoType s e)
  no_type_decides e =
      let g = (form_at s e).grouping in
      let any = list_any (is_marked marks e) all_types in
      Decides-like (has_no_type marks e g) (λ h. record { shares = h.0; none = λ t has. h.1 (t, has) }) (λ h. (h.shares, (λ some. h.none some.0 some.1)))
      (Decides-and (not (is_apart g)) (not any) (apart_decides g) (Decides-not any (any_type (is_marked marks e) (λ t. HasType s (AtGroup e) t) (are e))))

  -- types disagree at a group
  abbrev pub GroupFault : ℕ → Ty → Type 0
  GroupFault e t = HasType s (AtGroup e) t × (((allowed : Allowed) × ((form_at s e).grouping ≡ Function allowed) × (is_allowed allowed t ≡ false)) ⊎ (((form_at s e).grouping ≢ Passing) × ((u : Ty) × (HasType s (AtGroup e) u × (t ≢ u)))))

  group_fault_decides : (e : ℕ) → Decides (list_any (group_disagrees_at marks e (form_at s e).grouping) all_types) ((t : Ty) × GroupFault e t)
  group_fault_decides e =
      let g = (form_at s e).grouping in
      any_type (group_disagrees_at marks e g) (GroupFault e) (λ t.
      Decides-and (is_marked marks e t) (bars g t || (not (is_passing g) && has_other marks e t)) (are e t)
      (Decides-or (bars g t) (not (is_passing g) && has_other marks e t) (bars_decides g t)
      (Decides-and (not (is_passing g)) (has_other marks e t) (passing_decides g)
      (any_type (λ u. is_marked marks e u && not (same_ty t u)) (λ u. HasType s (AtGroup e) u × (t ≢ u)) (λ u. Decides-and (is_marked marks e u) (not (same_ty t u)) (are e u) (Decides-not (same_ty t u) (same_decides t u)))))))

  operand_decides : (o : Option Ty) → Decides (operand_disagrees o) ((t : Ty) × ((o ≡ Some t) × (t ≢ ty.Bool)))
  operand_decides (Some t) = Decides-like (not (is_bool t)) (λ h. (t, (refl, h))) (λ h. let e : t ≡ h.0 = (let f = h.1.0 in cc) in (λ is. h.1.1 (sym e ∙ is))) (no_bool_decides t)
  operand_decides None = never (λ h. let f = h.1.0 in absurd (cc))

  -- a negated output gives a type other than BOOL
  abbrev pub OutFault : ℕ → Out → Type 0
  OutFault e o = (o.negated ≡ true) × ((t : Ty) × ((gives_has marks e o.gives t ≡ true) × (t ≢ ty.Bool)))

  out_decides : (e : ℕ) (o : Out) → Decides (out_disagrees marks e o) (OutFault e o)
  out_decides e o =
      let any = list_any (λ t. gives_has marks e o.gives t && not (is_bool t)) all_types in
      Decides-and o.negated any (on_decides o.negated) (any_type (λ t. gives_has marks e o.gives t && not (is_bool t)) (λ t. (gives_has marks e o.gives t ≡ true) × (t ≢ ty.Bool)) (λ t. Decides-and (gives_has marks e o.gives t) (not (is_bool t)) (on_decides (gives_has marks e o.gives t)) (no_bool_decides t)))

  no_out_fault : (e : ℕ) → OutFault e no_out → ⊥
  no_out_fault e h = let f : false ≡ true = h.0 in cc

  outs_decides : (e : ℕ) (outs : Outputs) → Decides (outputs_disagree marks e outs) ((p : ℕ) × OutFault e (output_among outs p))
  outs_decides e Absent = never (λ h. no_out_fault e h.1)
  outs_decides e (Single o) = Decides-like (out_disagrees marks e o) (λ h. (0, h)) (λ h. h.1) (out_decides e o)
  outs_decides e (Listed os) = Decides-like (list_any (out_disagrees marks e) os)
      (λ h. (h.1.0, subst (OutFault e) (sym (get_or_default os h.1.0 no_out h.0 h.1.1 ∙ h.1.2)) h.2))
      (λ h. elim (cases_lt h.0 (length os)) [
        | inl low ↦ (get_or os h.0 no_out, Contains-get_or os h.0 no_out low, h.1)
        | inr high ↦ absurd (no_out_fault e (subst (OutFault e) (get_or-eq_default os no_out high) h.1))
      ])
      (any_decides (out_disagrees marks e) (OutFault e) (out_decides e) os)

  -- an output of the element, by its place
  abbrev pub output : ℕ → ℕ → Source
  output e p = record { element = e; pin = p }

  abbrev pub OutputFault : ℕ → Type 0
  OutputFault e = (p : ℕ) × (((output_at s (output e p)).negated ≡ true) × ((t : Ty) × (HasType s (AtOutput (output e p)) t × (t ≢ ty.Bool))))

  output_fault_decides : (e : ℕ) → Decides (outputs_disagree marks e (form_at s e).outputs) (OutputFault e)
  output_fault_decides e = Decides-like (outputs_disagree marks e (form_at s e).outputs)
      (λ h. (h.0, (h.1.0, (h.1.1.0, ((source_decides s marks are h.1.1.0 (output e h.0)).0 h.1.1.1.0, h.1.1.1.1)))))
      (λ h. (h.0, (h.1.0, (h.1.1.0, ((source_decides s marks are h.1.1.0 (output e h.0)).1 h.1.1.1.0, h.1.1.1.1)))))
      (outs_decides e (form_at s e).outputs)

  pub form_fault_decides : (e : ℕ) → Decides (form_disagrees marks e (form_at s e)) (((t : Ty) × GroupFault e t) ⊎ (((t : Ty) × (((form_at s e).operand ≡ Some t) × (t ≢ ty.Bool))) ⊎ OutputFault e))
  form_fault_decides e =
      let f = form_at s e in
      Decides-or (list_any (group_disagrees_at marks e f.grouping) all_types) (operand_disagrees f.operand || outputs_disagree marks e f.outputs) (group_fault_decides e)
      (Decides-or (operand_disagrees f.operand) (outputs_disagree marks e f.outputs) (operand_decides f.operand) (output_fault_decides e))

  -- ---- untyped literals

  taken_by : (i : ℕ) (t : Ty) (c : Option Class) → i < length s.pins → (pin_at s i).class ≡ c → Decides (if is_lone c then same_ty ty.Dint t else class_has s marks (pin_at s i).element c (sources_at s i) t) (TakenAt s i c t)
  taken_by i t (Some class.Lone) low is = Decides-like (same_ty ty.Dint t) (λ e. sym e) (λ e. sym e) (same_decides ty.Dint t)
  taken_by i t (Some class.Group) low is = subst (λ c. Decides (class_has s marks (pin_at s i).element c (sources_at s i) t) (HasType s (AtPin i) t)) is (pin_decides s marks are i t low)
  taken_by i t (Some (class.Fixed u)) low is = subst (λ c. Decides (class_has s marks (pin_at s i).element c (sources_at s i) t) (HasType s (AtPin i) t)) is (pin_decides s marks are i t low)
  taken_by i t None low is = subst (λ c. Decides (class_has s marks (pin_at s i).element c (sources_at s i) t) (HasType s (AtPin i) t)) is (pin_decides s marks are i t low)

  pub taken_decides : (i : ℕ) (t : Ty) → i < length s.pins → Decides (taken_has s marks (pin_at s i) (sources_at s i) t) (TakenAt s i (pin_at s i).class t)
  taken_decides i t low = taken_by i t (pin_at s i).class low refl

  pub literal_fault_decides : (i e : ℕ) → i < length s.pins → Decides (literal_disagrees s marks (pin_at s i) (sources_at s i) e) (((output_at s (only e)).negated ≡ true) × ((t : Ty) × (TakenAt s i (pin_at s i).class t × (t ≢ ty.Bool))))
  literal_fault_decides i e low =
      let has = taken_has s marks (pin_at s i) (sources_at s i) in
      Decides-and (output_at s (only e)).negated (list_any (λ t. has t && not (is_bool t)) all_types) (on_decides (output_at s (only e)).negated)
      (any_type (λ t. has t && not (is_bool t)) (λ t. TakenAt s i (pin_at s i).class t × (t ≢ ty.Bool)) (λ t. Decides-and (has t) (not (is_bool t)) (taken_decides i t low) (no_bool_decides t)))

  -- the number is outside a type that is taken at the pin
  abbrev pub NumberFault : ℕ → Gives → Type 0
  NumberFault i g = (n : ℤ) × (g ≡ Untyped n) × ((t : Ty) × (TakenAt s i (pin_at s i).class t × (InRange t n → ⊥)))

  within_decides : (t : Ty) (n : ℤ) → Decides (fits t n) (InRange t n)
  within_decides t n = Decides-and (le_z (bounds_of t).low n) (le_z n (bounds_of t).high) (z_decides (bounds_of t).low n) (z_decides n (bounds_of t).high)

  number_decides : (i : ℕ) (g : Gives) → i < length s.pins → Decides (number_outside s marks (pin_at s i) (sources_at s i) g) (NumberFault i g)
  number_decides i (Untyped n) low =
      let has = taken_has s marks (pin_at s i) (sources_at s i) in
      Decides-like (list_any (λ t. has t && not (fits t n)) all_types) (λ h. (n, refl, h)) (λ h. let e : n ≡ h.0 = (let f = h.1 in cc) in (h.2.0, (h.2.1.0, (λ r. h.2.1.1 (subst (InRange h.2.0) e r)))))
      (any_type (λ t. has t && not (fits t n)) (λ t. TakenAt s i (pin_at s i).class t × (InRange t n → ⊥)) (λ t. Decides-and (has t) (not (fits t n)) (taken_decides i t low) (Decides-not (fits t n) (within_decides t n))))
  number_decides i (Typed t) low = never (λ h. let f = h.1 in absurd (cc))
  number_decides i Grouped low = never (λ h. let f = h.1 in absurd (cc))
  number_decides i Nothing low = never (λ h. let f = h.1 in absurd (cc))

  pub outside_decides : (i e : ℕ) → i < length s.pins → Decides (literal_outside s marks (pin_at s i) (sources_at s i) e) (NumberFault i (gives_at s (only e)))
  outside_decides i e low = number_decides i (gives_at s (only e)) low
