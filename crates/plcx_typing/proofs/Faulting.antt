-- The marks of faults say where rules are broken.
use Rattle.std.proofs.Common.{◌≡◌, ◌≢◌, ℕ, zero, suc, ◌<◌, ◌⊎◌, ◌&&◌, ◌||◌, inl, inr, Bool, true, false, List, [], Some, length, nat_eq, refl, sym, ap, subst, arith}
use Rattle.std.specs.Bool.{Decides}
use Rattle.std.specs.List.{Contains, list_any}
use Rattle.std.proofs.lemmas.Bool.{cases_lt}
use Rattle.std.proofs.lemmas.Bool.Decides.{Decides-and, Decides-or, Decides-like}
use Rattle.plcx_types.specs.declared.ty.Ty.{Ty}
use Rattle.plcx_types.specs.declared.ty.Ty.TheVariants as ty
use Rattle.plcx_model.specs.declared.source.Source.{Source}
use Rattle.plcx_rules.specs.declared.form.Pin.{Pin}
use Rattle.plcx_rules.specs.declared.form.Form.{Form}
use Rattle.plcx_rules.specs.declared.form.Gives.TheVariants.{Untyped}
use Rattle.plcx_rules.specs.declared.form.TypeRule.{TypeRule}
use Rattle.plcx_rules.specs.declared.form.TypeRule.TheVariants.{NoType, Disagreement, Range}
use Rattle.plcx_rules.specs.Types.{Sheet, form_at, pin_at, sources_at, output_at, gives_at, is_untyped, IsPinOf, AtPin, AtOutput, HasType, TakenAt, Takes}
use Rattle.plcx_rules.specs.TypingRules.{HasNoType, Disagrees, SourceDiffers, GroupDiffers, GroupIsBarred, LoneIsBarred, LiteralMeetsTime, SeveralMeet, PinIsNoBool, OutputIsNoBool, LiteralIsNoBool, OperandIsNoBool, BreaksIn}
use Rattle.plcx_typing.specs.Sheets.{sheet}
use Rattle.plcx_typing.specs.Tests.{AreMarks, is_literal, only}
use Rattle.plcx_typing.specs.Faults.{element_breaks, pin_breaks, literal_breaks, source_raises, pin_raises, any_below, pins_raise, breaks_at}
use Rattle.plcx_typing.proofs.Deciding.{nat_decides, on_decides, never, any_decides, PinFault, GroupFault, OutputFault, output, NumberFault, pin_fault_decides, no_type_decides, form_fault_decides, literal_fault_decides, outside_decides}

pub or_more : (a b c d : Bool) → d ≡ (a || b) → (d || c) ≡ (a || (b || c))
or_more true b c d e = ap (λ x. x || c) e
or_more false b c d e = ap (λ x. x || c) e

below_decides : (p : ℕ → Bool) (P : ℕ → Type 0) (n : ℕ) → ((k : ℕ) → k < n → Decides (p k) (P k)) → Decides (any_below p n) ((k : ℕ) × ((k < n) × P k))
below_decides p P zero each = never (λ h. let low = h.1.0 in omega arith)
below_decides p P (suc n) each = Decides-like (any_below p n || p n)
    (λ h. elim h [
      | inl a ↦ (a.0, (omega (arith, a.1.0), a.1.1))
      | inr b ↦ (n, (omega arith, b))
    ])
    (λ h. elim (cases_lt h.0 n) [
      | inl low ↦ inl (h.0, (low, h.1.1))
      | inr high ↦ let same : h.0 ≡ n = (let l = h.1.0 in omega arith) in inr (subst P same h.1.1)
    ])
    (Decides-or (any_below p n) (p n) (below_decides p P n (λ k h. each k (omega arith))) (each n (omega arith)))

module _ (s : Sheet) (marks : List Bool) (are : AreMarks s marks) where
  -- the fault of an untyped literal at a pin, and that of a pin
  abbrev LiteralFault : TypeRule → ℕ → ℕ → Type 0
  LiteralFault NoType i e = ⊥
  LiteralFault Disagreement i e = ((output_at s (only e)).negated ≡ true) × ((t : Ty) × (TakenAt s i (pin_at s i).class t × (t ≢ ty.Bool)))
  LiteralFault Range i e = NumberFault s marks are i (gives_at s (only e))

  abbrev OwnPinFault : TypeRule → ℕ → Type 0
  OwnPinFault NoType i = ⊥
  OwnPinFault Disagreement i = (t : Ty) × PinFault s i t
  OwnPinFault Range i = ⊥

  abbrev FormFault : TypeRule → ℕ → Type 0
  FormFault NoType e = HasNoType s e
  FormFault Disagreement e = ((t : Ty) × GroupFault s marks are e t) ⊎ (((t : Ty) × (((form_at s e).operand ≡ Some t) × (t ≢ ty.Bool))) ⊎ OutputFault s marks are e)
  FormFault Range e = ⊥

  literal_breaks_decides : (r : TypeRule) (i e : ℕ) → i < length s.pins → Decides (literal_breaks r s marks (pin_at s i) (sources_at s i) e) (LiteralFault r i e)
  literal_breaks_decides NoType i e low = never (λ h. h)
  literal_breaks_decides Disagreement i e low = literal_fault_decides s marks are i e low
  literal_breaks_decides Range i e low = outside_decides s marks are i e low

  pin_breaks_decides : (r : TypeRule) (i : ℕ) → i < length s.pins → Decides (pin_breaks r s marks (pin_at s i) (sources_at s i)) (OwnPinFault r i)
  pin_breaks_decides NoType i low = never (λ h. h)
  pin_breaks_decides Disagreement i low = pin_fault_decides s marks are i low
  pin_breaks_decides Range i low = never (λ h. h)

  element_breaks_decides : (r : TypeRule) (e : ℕ) → Decides (element_breaks r marks e (form_at s e)) (FormFault r e)
  element_breaks_decides NoType e = no_type_decides s marks are e
  element_breaks_decides Disagreement e = form_fault_decides s marks are e
  element_breaks_decides Range e = never (λ h. h)

  abbrev SourceFault : TypeRule → ℕ → ℕ → Source → Type 0
  SourceFault r x i o = (o.element ≡ x) × ((is_untyped (gives_at s o) ≡ true) × LiteralFault r i o.element)

  abbrev AtPinFault : TypeRule → ℕ → ℕ → Type 0
  AtPinFault r x i = (((pin_at s i).element ≡ x) × OwnPinFault r i) ⊎ ((o : Source) × Contains (sources_at s i) o × SourceFault r x i o)

  at_pin_decides : (r : TypeRule) (x i : ℕ) → i < length s.pins → Decides (pin_raises r s marks (pin_at s i) (sources_at s i) x) (AtPinFault r x i)
  at_pin_decides r x i low =
      let p = pin_at s i in
      let sources = sources_at s i in
      Decides-or (nat_eq p.element x && pin_breaks r s marks p sources) (list_any (source_raises r s marks p sources x) sources)
      (Decides-and (nat_eq p.element x) (pin_breaks r s marks p sources) (nat_decides p.element x) (pin_breaks_decides r i low))
      (any_decides (source_raises r s marks p sources x) (SourceFault r x i) (λ o.
      Decides-and (nat_eq o.element x) (is_literal s o && literal_breaks r s marks p sources o.element) (nat_decides o.element x)
      (Decides-and (is_literal s o) (literal_breaks r s marks p sources o.element) (on_decides (is_literal s o)) (literal_breaks_decides r i o.element low))) sources)

  abbrev Fault : TypeRule → ℕ → Type 0
  Fault r x = FormFault r x ⊎ ((i : ℕ) × ((i < length s.pins) × AtPinFault r x i))

  fault_decides : (r : TypeRule) (x : ℕ) → Decides (breaks_at r s marks x) (Fault r x)
  fault_decides r x = Decides-or (element_breaks r marks x (form_at s x)) (pins_raise r s marks x (length s.pins)) (element_breaks_decides r x)
      (below_decides (λ i. pin_raises r s marks (pin_at s i) (sources_at s i) x) (AtPinFault r x) (length s.pins) (λ i low. at_pin_decides r x i low))

  pin_disagrees_so : (x i : ℕ) (t : Ty) → IsPinOf s x i → PinFault s i t → Disagrees s x
  pin_disagrees_so x i t pin (inl f) = SourceDiffers pin f.0.1 f.0.2 f.1
  pin_disagrees_so x i t pin (inr (has, inl f)) = LoneIsBarred pin f.0 has f.1
  pin_disagrees_so x i t pin (inr (has, inr (inl f))) = LiteralMeetsTime pin f.1.1 f.1.2 (subst (HasType s (AtPin i)) f.0 has)
  pin_disagrees_so x i t pin (inr (has, inr (inr (other, inl f)))) = PinIsNoBool pin f has other
  pin_disagrees_so x i t pin (inr (has, inr (inr (other, inr f)))) = SeveralMeet pin f has other

  takes_so : (x i : ℕ) (o : Source) (t : Ty) → i < length s.pins → Contains (sources_at s i) o → o.element ≡ x → is_untyped (gives_at s o) ≡ true → TakenAt s i (pin_at s i).class t → Takes s x t
  takes_so x i o t low there own untyped taken = record { pin = i; count = low; source = o; wired = there; owner = own; untyped = untyped; taken = taken }

  broken_so : (r : TypeRule) (x : ℕ) → Fault r x → BreaksIn r s x
  broken_so NoType x (inl f) = f
  broken_so NoType x (inr (i, (low, inl f))) = absurd f.1
  broken_so NoType x (inr (i, (low, inr f))) = absurd f.2.1.1
  broken_so Disagreement x (inl (inl (t, (has, inl f)))) = GroupIsBarred f.1 has f.2
  broken_so Disagreement x (inl (inl (t, (has, inr (shares, other))))) = GroupDiffers shares has other.1.0 other.1.1
  broken_so Disagreement x (inl (inr (inl (t, (is, other))))) = OperandIsNoBool is other
  broken_so Disagreement x (inl (inr (inr (p, (negated, (t, (has, other))))))) = OutputIsNoBool {o = output s marks are x p} refl negated has other
  broken_so Disagreement x (inr (i, (low, inl (own, (t, f))))) = pin_disagrees_so x i t (record { count = low; owner = own }) f
  broken_so Disagreement x (inr (i, (low, inr (o, there, (own, (untyped, (negated, (t, (taken, other)))))))))
      = LiteralIsNoBool (subst (λ e. (output_at s (only e)).negated ≡ true) own negated) (takes_so x i o t low there own untyped taken) other
  broken_so Range x (inl f) = absurd f
  broken_so Range x (inr (i, (low, inl f))) = absurd f.1
  broken_so Range x (inr (i, (low, inr (o, there, (own, (untyped, (n, literal, (t, (taken, outside)))))))))
      = record { number = n; literal = subst (λ e. gives_at s (only e) ≡ Untyped n) own literal; taken = t; takes = takes_so x i o t low there own untyped taken; outside = outside }

  at_pin : (x i : ℕ) (t : Ty) → IsPinOf s x i → PinFault s i t → Fault Disagreement x
  at_pin x i t pin f = inr (i, (pin.count, inl (pin.owner, (t, f))))

  disagrees_so : (x : ℕ) → Disagrees s x → Fault Disagreement x
  disagrees_so x (SourceDiffers {i = i} {o = o} {t = t} pin there has other) = at_pin x i t pin (inl ((o, there, has), other))
  disagrees_so x (GroupDiffers {t = t} {u = u} shares has other differ) = inl (inl (t, (has, inr (shares, (u, (other, differ))))))
  disagrees_so x (GroupIsBarred {allowed = allowed} {t = t} is has bars) = inl (inl (t, (has, inl (allowed, is, bars))))
  disagrees_so x (LoneIsBarred {i = i} {t = t} pin is has bars) = at_pin x i t pin (inr (has, inl (is, bars)))
  disagrees_so x (LiteralMeetsTime {i = i} {o = o} pin there untyped has) = at_pin x i ty.Time pin (inr (has, inr (inl (refl, (o, there, untyped)))))
  disagrees_so x (SeveralMeet {i = i} {t = t} pin several has other) = at_pin x i t pin (inr (has, inr (inr (other, inr several))))
  disagrees_so x (PinIsNoBool {i = i} {t = t} pin modified has other) = at_pin x i t pin (inr (has, inr (inr (other, inl modified))))
  disagrees_so x (OutputIsNoBool {o = o} {t = t} own negated has other) = inl (inr (inr (o.pin, (subst (λ e. (output_at s (output s marks are e o.pin)).negated ≡ true) own negated, (t, (subst (λ e. HasType s (AtOutput (output s marks are e o.pin)) t) own has, other))))))
  disagrees_so x (LiteralIsNoBool {t = t} negated takes other) =
      inr (takes.pin, (takes.count, inr (takes.source, takes.wired, (takes.owner, (takes.untyped, (subst (λ e. (output_at s (only e)).negated ≡ true) (sym takes.owner) negated, (t, (takes.taken, other))))))))
  disagrees_so x (OperandIsNoBool {t = t} is other) = inl (inr (inl (t, (is, other))))

  so_broken : (r : TypeRule) (x : ℕ) → BreaksIn r s x → Fault r x
  so_broken NoType x f = inl f
  so_broken Disagreement x f = disagrees_so x f
  so_broken Range x f =
      let takes = f.takes in
      inr (takes.pin, (takes.count, inr (takes.source, takes.wired, (takes.owner, (takes.untyped, (f.number, subst (λ e. gives_at s (only e) ≡ Untyped f.number) (sym takes.owner) f.literal, (f.taken, (takes.taken, f.outside))))))))

  pub breaks_decides : (r : TypeRule) (x : ℕ) → Decides (breaks_at r s marks x) (BreaksIn r s x)
  breaks_decides r x = Decides-like (breaks_at r s marks x) (broken_so r x) (so_broken r x) (fault_decides r x)

-- what a pin raises goes by the elements alone
pub same_raised : (r : TypeRule) (forms : List Form) (pins : List Pin) (links : List (List Source)) (marks : List Bool) (p : Pin) (sources : List Source) (x : ℕ) → pin_raises r (sheet forms [] []) marks p sources x ≡ pin_raises r (sheet forms pins links) marks p sources x
same_raised NoType forms pins links marks p sources x = refl
same_raised Disagreement forms pins links marks p sources x = refl
same_raised Range forms pins links marks p sources x = refl
