use Rattle.std.proofs.Common.{◌≡◌, ℕ, Bool, true, false, nat_eq, cond, ◌||◌, ◌&&◌, refl, ap, ◌∙◌, arith}
use Rattle.std.proofs.lemmas.Bool.Decides.{nat_tests}
use Rattle.std.specs.HashSet.{contains_by}
use Rattle.plcx_table.specs.Constructs.{is_pair}
use Rattle.plcx_table.proofs.constructs.note_pair.Goals as goal

flip : (a b : ℕ) → nat_eq a b ≡ nat_eq b a
flip a b = grind (arith, nat_tests)

or-is : (b x : Bool) → cond b true x ≡ (b || x)
or-is true x = refl
or-is false x = refl

turned : (a b d n : ℕ) (x : Bool) → cond (nat_eq a d && nat_eq b n) true x ≡ ((nat_eq d a && nat_eq n b) || x)
turned a b d n x =
    ap (λ (t : Bool). cond (t && nat_eq b n) true x) (flip a d) ∙ ap (λ (t : Bool). cond (nat_eq d a && t) true x) (flip b n) ∙ or-is (nat_eq d a && nat_eq n b) x

pub returns : goal.returns
returns c = λ d n. c.in_ok-insert.ensures.updates.0 (d, n) ∙ turned c.args.diagram c.args.number d n (contains_by (is_pair d n) c.args.set.now)
