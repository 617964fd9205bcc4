-- Where the rules 34 to 36 are broken in a body, as a mark for each element. Only proofs are served by it.
use Rattle.std.specs.Prelude.{ℕ, zero, suc, Bool, false, ◌&&◌, ◌||◌, List, length, get_or, nat_eq}
use Rattle.std.specs.List.{list_any}
use Rattle.plcx_model.specs.declared.source.Source.{Source}
use Rattle.plcx_rules.specs.declared.form.Pin.{Pin}
use Rattle.plcx_rules.specs.declared.form.Form.{Form}
use Rattle.plcx_rules.specs.declared.form.TypeRule.{TypeRule}
use Rattle.plcx_rules.specs.declared.form.TypeRule.TheVariants.{NoType, Disagreement, Range}
use Rattle.plcx_rules.specs.Types.{Sheet, form_at, pin_at, sources_at}
use Rattle.plcx_typing.specs.Tests.{is_literal, form_disagrees, has_no_type, pin_disagrees, literal_disagrees, literal_outside}

abbrev pub flag : List Bool → ℕ → Bool
flag flags e = get_or flags e false

-- a rule is broken at an element by itself, at a pin, and by an untyped literal that is wired to a pin
abbrev pub element_breaks : TypeRule → List Bool → ℕ → Form → Bool
element_breaks NoType marks e f = has_no_type marks e f.grouping
element_breaks Disagreement marks e f = form_disagrees marks e f
element_breaks Range marks e f = false

abbrev pub pin_breaks : TypeRule → Sheet → List Bool → Pin → List Source → Bool
pin_breaks NoType s marks p sources = false
pin_breaks Disagreement s marks p sources = pin_disagrees s marks p sources
pin_breaks Range s marks p sources = false

abbrev pub literal_breaks : TypeRule → Sheet → List Bool → Pin → List Source → ℕ → Bool
literal_breaks NoType s marks p sources e = false
literal_breaks Disagreement s marks p sources e = literal_disagrees s marks p sources e
literal_breaks Range s marks p sources e = literal_outside s marks p sources e

-- a source at a pin breaks a rule at an element
abbrev pub source_raises : TypeRule → Sheet → List Bool → Pin → List Source → ℕ → Source → Bool
source_raises r s marks p sources x o = nat_eq o.element x && (is_literal s o && literal_breaks r s marks p sources o.element)

-- a pin and its sources do
abbrev pub pin_raises : TypeRule → Sheet → List Bool → Pin → List Source → ℕ → Bool
pin_raises r s marks p sources x = (nat_eq p.element x && pin_breaks r s marks p sources) || list_any (source_raises r s marks p sources x) sources

-- a number below passes
abbrev pub any_below : (ℕ → Bool) → ℕ → Bool
any_below p zero = false
any_below p (suc n) = any_below p n || p n

-- one of the first pins does
abbrev pub pins_raise : TypeRule → Sheet → List Bool → ℕ → ℕ → Bool
pins_raise r s marks x n = any_below (λ i. pin_raises r s marks (pin_at s i) (sources_at s i) x) n

-- a rule is broken at an element
abbrev pub breaks_at : TypeRule → Sheet → List Bool → ℕ → Bool
breaks_at r s marks x = element_breaks r marks x (form_at s x) || pins_raise r s marks x (length s.pins)
