-- The rules on types: why no element of the ring breaks any of them. Each pin, group and output has the type DINT and no other.
use Rattle.std.proofs.Common.{◌≡◌, ℕ, zero, suc, ◌+◌, ◌*◌, ◌/◌, ◌%◌, ◌≤◌, ◌<◌, true, false, List, [], ◌∷◌, length, get_or, Contains, Some, None, refl, ap, sym, subst, ◌∙◌, arith, inl, inr, ◌⊎◌}
use Rattle.std.proofs.lemmas.Bool.{cases_lt}
use Rattle.std.proofs.lemmas.List.{get_or_past}
use Rattle.plcx_types.specs.declared.ty.Ty.{Ty}
use Rattle.plcx_types.specs.declared.ty.Ty.TheVariants as ty
use Rattle.plcx_funcs.specs.declared.allowed.Allowed.{Allowed}
use Rattle.plcx_funcs.specs.declared.allowed.Allowed.TheVariants as set
use Rattle.plcx_funcs.specs.declared.pins.Class.TheVariants as class
use Rattle.plcx_funcs.specs.Types.{is_allowed, is_whole}
use Rattle.plcx_model.specs.declared.source.Source.{Source}
use Rattle.plcx_model.specs.Verdict.{Never, Kept, Next}
use Rattle.plcx_rules.specs.declared.form.Pin.{Pin}
use Rattle.plcx_rules.specs.declared.form.Gives.{Gives}
use Rattle.plcx_rules.specs.declared.form.Gives.TheVariants.{Typed, Grouped, Untyped, Nothing}
use Rattle.plcx_rules.specs.declared.form.Out.{Out}
use Rattle.plcx_rules.specs.declared.form.Grouping.TheVariants.{Function}
use Rattle.plcx_rules.specs.declared.form.Form.{Form}
use Rattle.plcx_rules.specs.declared.form.TypeRule.{TypeRule}
use Rattle.plcx_rules.specs.declared.form.TypeRule.TheVariants as rule
use Rattle.plcx_rules.specs.Forms.{out, sheet_at}
use Rattle.plcx_rules.specs.Sources.{source, links_of}
use Rattle.plcx_rules.specs.Types.{Sheet, no_form, no_out, no_pin, form_at, pin_at, sources_at, output_among, output_at, Point, AtPin, AtGroup, AtOutput, HasType, DeclaredPin, DeclaredOutput, GroupOfSource, PinOfGroup, OutputOfGroup, LoneOfSource, LoneOfLiteral}
use Rattle.plcx_rules.specs.TypingRules.{HasNoType, Disagrees, SourceDiffers, GroupDiffers, GroupIsBarred, LoneIsBarred, LiteralMeetsTime, SeveralMeet, PinIsNoBool, OutputIsNoBool, LiteralIsNoBool, OperandIsNoBool, IsOutside, BreaksIn, BreaksTyping, TypingVerdict}
use Rattle.plcx_rules.specs.Items.{Item, items_of}
use Rattle.plcx_bench_project.specs.Bench.{ring}
use Rattle.plcx_bench_rules.proofs.Blocks.{blocks_length, at_block}
use Rattle.plcx_bench_rules.proofs.Links.{pous, bench, never}
use Rattle.plcx_bench_rules.proofs.Sheets.{grouped, fixed, value, sum, target, ring_pins, ring_forms, ring_sources, sheet, sheet_is}

-- ---- by place

form_of_block : (n i k e : ℕ) → i < n → k < 4 → e ≡ 4 * i + k → form_at (sheet n) e ≡ get_or (ring_forms i) k no_form
form_of_block n i k e below within at = at_block ring_forms 4 (λ j. refl) 0 n i k e i no_form below within at (omega arith)

pin_of_block : (n i k p : ℕ) → i < n → k < 3 → p ≡ 3 * i + k → pin_at (sheet n) p ≡ get_or (ring_pins i) k no_pin
pin_of_block n i k p below within at = at_block ring_pins 3 (λ j. refl) 0 n i k p i no_pin below within at (omega arith)

sources_of_block : (n i k p : ℕ) → i < n → k < 3 → p ≡ 3 * i + k → sources_at (sheet n) p ≡ get_or (ring_sources i) k []
sources_of_block n i k p below within at = at_block ring_sources 3 (λ j. refl) 0 n i k p i [] below within at (omega arith)

pin_count : (n : ℕ) → length (sheet n).pins ≡ 3 * n
pin_count n = blocks_length ring_pins 3 (λ j. refl) 0 n

form_count : (n : ℕ) → length (sheet n).forms ≡ 4 * n
form_count n = blocks_length ring_forms 4 (λ j. refl) 0 n

-- what the element at a place is; where there is none, it is as a target is
data FormCase (n e : ℕ) : Type 0 where
  OfValue : form_at (sheet n) e ≡ value → FormCase n e
  OfSum : (i : ℕ) → i < n → e ≡ 4 * i + 2 → form_at (sheet n) e ≡ sum → FormCase n e
  OfTarget : form_at (sheet n) e ≡ target → FormCase n e

form_case : (n e : ℕ) → FormCase n e
form_case n e = by (cases_lt e (4 * n))
  where
    at : (i k : ℕ) → i < n → k < 4 → e ≡ 4 * i + k → FormCase n e
    at i zero below within is = OfValue (form_of_block n i 0 e below within is)
    at i (suc zero) below within is = OfValue (form_of_block n i 1 e below within is)
    at i (suc (suc zero)) below within is = OfSum i below is (form_of_block n i 2 e below within is)
    at i (suc (suc (suc zero))) below within is = OfTarget (form_of_block n i 3 e below within is)
    at i (suc (suc (suc (suc k)))) below within is = absurd (omega arith)

    by : (e < 4 * n) ⊎ (4 * n ≤ e) → FormCase n e
    by (inl below) = at (e / 4) (e % 4) (omega arith) (omega arith) (omega arith)
    by (inr past) = OfTarget (get_or_past (sheet n).forms e no_form (omega (arith, form_count n)))

-- what an input pin is, and its only source
data PinCase (n p : ℕ) : Type 0 where
  OfGroup : (i k : ℕ) → i < n → k < 2 → pin_at (sheet n) p ≡ grouped (4 * i + 2) → sources_at (sheet n) p ≡ source (4 * i + k) 0 ∷ [] → PinCase n p
  OfFixed : (i : ℕ) → i < n → pin_at (sheet n) p ≡ fixed (4 * i + 3) → sources_at (sheet n) p ≡ source (4 * i + 2) 0 ∷ [] → PinCase n p

pin_case : (n p : ℕ) → p < length (sheet n).pins → PinCase n p
pin_case n p inside = at (p / 3) (p % 3) (omega (arith, pin_count n)) (omega arith) (omega arith)
  where
    at : (i k : ℕ) → i < n → k < 3 → p ≡ 3 * i + k → PinCase n p
    at i zero below within is =
        let first : 4 * i ≡ 4 * i + 0 = omega arith in
        OfGroup i 0 below (omega arith) (pin_of_block n i 0 p below within is) (sources_of_block n i 0 p below within is ∙ ap (λ (m : ℕ). source m 0 ∷ []) first)
    at i (suc zero) below within is = OfGroup i 1 below (omega arith) (pin_of_block n i 1 p below within is) (sources_of_block n i 1 p below within is)
    at i (suc (suc zero)) below within is = OfFixed i below (pin_of_block n i 2 p below within is) (sources_of_block n i 2 p below within is)
    at i (suc (suc (suc k))) below within is = absurd (omega arith)

-- ---- no other type

-- a type that is given is DINT, and there are no untyped literals
abbrev GivesDint : Gives → Type 0
GivesDint (Typed t) = t ≡ ty.Dint
GivesDint Grouped = Unit {0}
GivesDint (Untyped k) = ⊥
GivesDint Nothing = Unit {0}

-- it isn't negated, and gives no type but DINT
abbrev IsPlain : Out → Type 0
IsPlain o = (o.negated ≡ false) × GivesDint o.gives

sum_plain : (k : ℕ) → IsPlain (get_or (out Grouped false ∷ []) k no_out)
sum_plain zero = (refl, tt)
sum_plain (suc k) = (refl, tt)

output_plain : (n : ℕ) (o : Source) → IsPlain (output_at (sheet n) o)
output_plain n o = by (form_case n o.element)
  where
    at : (f : Form) → form_at (sheet n) o.element ≡ f → IsPlain (output_among f.outputs o.pin) → IsPlain (output_at (sheet n) o)
    at f is plain = subst (λ (g : Form). IsPlain (output_among g.outputs o.pin)) (sym is) plain

    by : FormCase n o.element → IsPlain (output_at (sheet n) o)
    by (OfValue is) = at value is (refl, refl)
    by (OfSum i below e is) = at sum is (sum_plain o.pin)
    by (OfTarget is) = at target is (refl, tt)

declared_dint : (n p : ℕ) (t : Ty) → PinCase n p → (pin_at (sheet n) p).class ≡ Some (class.Fixed t) → t ≡ ty.Dint
declared_dint n p t (OfGroup i k below within is from) e = let group = ap (λ (q : Pin). q.class) is in cc
declared_dint n p t (OfFixed i below is from) e = let one = ap (λ (q : Pin). q.class) is in cc

-- what has a type has DINT
only : (n : ℕ) (x : Point) (t : Ty) → HasType (sheet n) x t → t ≡ ty.Dint
only n _ _ (DeclaredPin {i} {t} within is) = declared_dint n i t (pin_case n i within) is
only n _ _ (DeclaredOutput {o} {t} is) = subst GivesDint is (output_plain n o).1
only n _ _ (GroupOfSource {o = o} {t = t} owns class from h) = only n (AtOutput o) t h
only n _ _ (PinOfGroup {e = e} {t = t} owns class h) = only n (AtGroup e) t h
only n _ _ (OutputOfGroup {e = e} {t = t} owner gives h) = only n (AtGroup e) t h
only n _ _ (LoneOfSource {o = o} {t = t} within class from h) = only n (AtOutput o) t h
only n _ _ (LoneOfLiteral within class from untyped) = refl

-- ---- this type

value_dint : (n i k : ℕ) → i < n → k < 2 → HasType (sheet n) (AtOutput (source (4 * i + k) 0)) ty.Dint
value_dint n i k below within = DeclaredOutput (ap (λ (f : Form). (output_among f.outputs 0).gives) (of k within))
  where
    of : (m : ℕ) → m < 2 → form_at (sheet n) (4 * i + m) ≡ value
    of zero small = form_of_block n i 0 (4 * i + 0) below (omega arith) refl
    of (suc zero) small = form_of_block n i 1 (4 * i + 1) below (omega arith) refl
    of (suc (suc m)) small = absurd (omega arith)

contains_first : {A : Type 0} (xs : List A) (x : A) → xs ≡ x ∷ [] → Contains xs x
contains_first xs x is = subst (λ ys. Contains ys x) (sym is) (0, omega arith, refl)

-- the group of an addition has the type of the variable at its first input
group_dint : (n i : ℕ) → i < n → HasType (sheet n) (AtGroup (4 * i + 2)) ty.Dint
group_dint n i below =
    let inside : 3 * i < length (sheet n).pins = omega (arith, pin_count n) in
    let first : 3 * i ≡ 3 * i + 0 = omega arith in
    let zeroth : 4 * i ≡ 4 * i + 0 = omega arith in
    let is : pin_at (sheet n) (3 * i) ≡ grouped (4 * i + 2) = pin_of_block n i 0 (3 * i) below (omega arith) first in
    let from : sources_at (sheet n) (3 * i) ≡ source (4 * i + 0) 0 ∷ [] = sources_of_block n i 0 (3 * i) below (omega arith) first ∙ ap (λ (m : ℕ). source m 0 ∷ []) zeroth in
    GroupOfSource (record { count = inside; owner = ap (λ (q : Pin). q.element) is }) (ap (λ (q : Pin). q.class) is) (contains_first _ _ from) (value_dint n i 0 below (omega arith))

-- so has each pin
pin_dint : (n p : ℕ) → p < length (sheet n).pins → PinCase n p → HasType (sheet n) (AtPin p) ty.Dint
pin_dint n p inside (OfGroup i k below within is from) = PinOfGroup (record { count = inside; owner = ap (λ (q : Pin). q.element) is }) (ap (λ (q : Pin). q.class) is) (group_dint n i below)
pin_dint n p inside (OfFixed i below is from) = DeclaredPin inside (ap (λ (q : Pin). q.class) is)

-- ---- the rules

-- 34: the group of each addition has the type of its variable.
typed : (n e : ℕ) → HasNoType (sheet n) e → ⊥
typed n e h = by (form_case n e)
  where
    by : FormCase n e → ⊥
    by (OfValue is) = h.shares (ap (λ (f : Form). f.grouping) is)
    by (OfSum i below at is) = h.none ty.Dint (subst (λ m. HasType (sheet n) (AtGroup m) ty.Dint) (sym at) (group_dint n i below))
    by (OfTarget is) = h.shares (ap (λ (f : Form). f.grouping) is)

-- additions allow DINT
dint_is_allowed : (n e : ℕ) (allowed : Allowed) → FormCase n e → (form_at (sheet n) e).grouping ≡ Function allowed → is_allowed allowed ty.Dint ≡ true
dint_is_allowed n e allowed (OfValue is) g = let none = ap (λ (f : Form). f.grouping) is in cc
dint_is_allowed n e allowed (OfSum i below at is) g =
    let own = ap (λ (f : Form). f.grouping) is in
    let same : set.WholeTime ≡ allowed = cc in
    subst (λ a. is_allowed a ty.Dint ≡ true) same refl
dint_is_allowed n e allowed (OfTarget is) g = let none = ap (λ (f : Form). f.grouping) is in cc

one_source : (n p : ℕ) → PinCase n p → 2 ≤ length (sources_at (sheet n) p) → ⊥
one_source n p (OfGroup i k below within is from) many = let one = ap length from in omega arith
one_source n p (OfFixed i below is from) many = let one = ap length from in omega arith

unmodified : (n p : ℕ) → PinCase n p → (pin_at (sheet n) p).modified ≡ true → ⊥
unmodified n p (OfGroup i k below within is from) m = let not_so = ap (λ (q : Pin). q.modified) is in cc
unmodified n p (OfFixed i below is from) m = let not_so = ap (λ (q : Pin). q.modified) is in cc

no_operand : (n e : ℕ) (t : Ty) → FormCase n e → (form_at (sheet n) e).operand ≡ Some t → ⊥
no_operand n e t (OfValue is) o = let none = ap (λ (f : Form). f.operand) is in cc
no_operand n e t (OfSum i below at is) o = let none = ap (λ (f : Form). f.operand) is in cc
no_operand n e t (OfTarget is) o = let none = ap (λ (f : Form). f.operand) is in cc

plain_output : (n : ℕ) (o : Source) → (output_at (sheet n) o).negated ≡ true → ⊥
plain_output n o negated = let not_so = (output_plain n o).0 in cc

whole_type : (t : Ty) → t ≡ ty.Dint → is_whole t ≡ false → ⊥
whole_type t is barred = let whole = ap is_whole is in cc

barred_type : (t : Ty) (allowed : Allowed) → t ≡ ty.Dint → is_allowed allowed ty.Dint ≡ true → is_allowed allowed t ≡ false → ⊥
barred_type t allowed is may barred = let own = ap (is_allowed allowed) is in cc

no_time : ty.Time ≡ ty.Dint → ⊥
no_time e = cc

-- 35: each pin, group and output has DINT alone, which an addition allows; one source stands at each pin; and nothing is negated, stored or a literal
-- without a type.
agreed : (n e : ℕ) → Disagrees (sheet n) e → ⊥
agreed n e (SourceDiffers {i} {o} {t} owns from has lacks) = lacks (subst (HasType (sheet n) (AtPin i)) (sym (only n (AtOutput o) t has)) (pin_dint n i owns.count (pin_case n i owns.count)))
agreed n e (GroupDiffers {t} {u} passes one other differ) = differ (only n (AtGroup e) t one ∙ sym (only n (AtGroup e) u other))
agreed n e (GroupIsBarred {allowed} {t} groups has barred) = barred_type t allowed (only n (AtGroup e) t has) (dint_is_allowed n e allowed (form_case n e) groups) barred
agreed n e (LoneIsBarred {i} {t} owns lone has barred) = whole_type t (only n (AtPin i) t has) barred
agreed n e (LiteralMeetsTime {i} owns from untyped has) = no_time (only n (AtPin i) ty.Time has)
agreed n e (SeveralMeet {i} owns many has differs) = one_source n i (pin_case n i owns.count) many
agreed n e (PinIsNoBool {i} owns modified has differs) = unmodified n i (pin_case n i owns.count) modified
agreed n e (OutputIsNoBool {o} owner negated has differs) = plain_output n o negated
agreed n e (LiteralIsNoBool negated takes differs) = plain_output n (source e 0) negated
agreed n e (OperandIsNoBool {t} operand differs) = no_operand n e t (form_case n e) operand

-- 36: there are no literals without a type.
within : (n e : ℕ) → IsOutside (sheet n) e → ⊥
within n e h = subst GivesDint h.literal (output_plain n (source e 0)).1

-- no element breaks any of these rules
none_breaks : (n : ℕ) (r : TypeRule) (e : ℕ) → BreaksIn r (sheet n) e → ⊥
none_breaks n rule.NoType e = typed n e
none_breaks n rule.Disagreement e = agreed n e
none_breaks n rule.Range e = within n e

pub types_kept : (n : ℕ) → n ≤ 1000 → TypingVerdict (bench n) (links_of (pous n)) None
types_kept n small = Next (kept rule.NoType) (Next (kept rule.Disagreement) (Next (kept rule.Range) Kept))
  where
    none : (r : TypeRule) (e : ℕ) → BreaksIn r (sheet_at (pous n) (links_of (pous n)) 0 (ring n)) e → ⊥
    none r e breaks = none_breaks n r e (subst (λ (s : Sheet). BreaksIn r s e) (sheet_is n small) breaks)

    kept : (r : TypeRule) → Never (BreaksTyping (pous n) (links_of (pous n)) r) [] (items_of (pous n))
    kept r =
        never n (λ (x : Item). BreaksIn r (sheet_at (pous n) (links_of (pous n)) x.pou x.owner) x.place)
        (λ i p below at. none r p) (λ i p below at. none r p) (λ i p below at. none r p) (λ i p below at. none r p)
