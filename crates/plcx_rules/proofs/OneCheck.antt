-- A project has one verdict of the rules 20 to 36.
use Rattle.std.proofs.Common.{◌≡◌, ℕ, Option, Some, None, refl, ap}
use Rattle.plcx_model.proofs.OneVerdict.{one-verdict}
use Rattle.plcx_model.specs.declared.broken.Broken.{Broken}
use Rattle.plcx_model.specs.declared.broken.Place.{Place}
use Rattle.plcx_model.specs.declared.project.Project.{Project}
use Rattle.plcx_rules.specs.declared.form.TypeRule.{TypeRule}
use Rattle.plcx_rules.specs.declared.rule.LinkRule.{LinkRule}
use Rattle.plcx_rules.specs.CheckVerdict.{CheckVerdict, InLinks, InTypes, Unbroken, broken_at}
use Rattle.plcx_rules.specs.Items.{items_of}
use Rattle.plcx_rules.specs.LinkRules.{LinkVerdict, BreaksLink, link_place, link_rules, number}
use Rattle.plcx_rules.specs.Sources.{links_of}
use Rattle.plcx_rules.specs.TypingRules.{TypingVerdict, BreaksTyping, type_place, type_rules, type_rule_number}

one-link : (project : Project) (v w : Option (LinkRule × Place)) → LinkVerdict project v → LinkVerdict project w → v ≡ w
one-link project v w p q = one-verdict (BreaksLink project.pous) link_place (items_of project.pous) link_rules v w p q

one-typing : (project : Project) (v w : Option (TypeRule × Place)) → TypingVerdict project (links_of project.pous) v → TypingVerdict project (links_of project.pous) w → v ≡ w
one-typing project v w p q = one-verdict (BreaksTyping project.pous (links_of project.pous)) type_place (items_of project.pous) type_rules v w p q

some-same : {A : Type 0} (x y : A) → Some x ≡ Some y → x ≡ y
some-same x y h = cc

-- one rule and place, told by the rule's number
abbrev told : {R : Type 0} → (R → ℕ) → R × Place → Option Broken
told number_of x = Some (broken_at (number_of x.0) x.1)

no-pair : {A : Type 0} (x : A) → Some x ≡ None → ⊥
no-pair x h = cc

pub one-check : (project : Project) (v w : Option Broken) → CheckVerdict project v → CheckVerdict project w → v ≡ w
one-check project _ _ (InLinks h) (InLinks k) = ap (told number) (some-same _ _ (one-link project _ _ h k))
one-check project _ _ (InLinks h) (InTypes k types) = absurd (no-pair _ (one-link project _ _ h k))
one-check project _ _ (InLinks h) (Unbroken k types) = absurd (no-pair _ (one-link project _ _ h k))
one-check project _ _ (InTypes h types) (InLinks k) = absurd (no-pair _ (one-link project _ _ k h))
one-check project _ _ (Unbroken h types) (InLinks k) = absurd (no-pair _ (one-link project _ _ k h))
one-check project _ _ (InTypes h types) (InTypes k others) = ap (told type_rule_number) (some-same _ _ (one-typing project _ _ types others))
one-check project _ _ (InTypes h types) (Unbroken k others) = absurd (no-pair _ (one-typing project _ _ types others))
one-check project _ _ (Unbroken h types) (InTypes k others) = absurd (no-pair _ (one-typing project _ _ others types))
one-check project _ _ (Unbroken h types) (Unbroken k others) = refl
