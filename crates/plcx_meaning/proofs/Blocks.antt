-- A call of a standard block on agreeing states leaves them in agreement.
use Rattle.std.proofs.Common.{◌≡◌, ℕ, pos, Bool, true, false, List, [], ◌∷◌, refl, sym, ap, ◌∙◌, subst, if◌then◌else◌}
use Rattle.std.specs.Prelude.{not}
use Rattle.std.specs.List.{list_all}
use Rattle.std.proofs.lemmas.Bool.{and_parts, and_from, not-true, not_from_false}
use mathlib.Core.Path.{fun_ext}
use Rattle.plcx_types.specs.Name.{in_lower_case}
use Rattle.plcx_types.specs.Reserved.{is_own}
use Rattle.plcx_types.specs.Value.{Value}
use Rattle.plcx_std.specs.declared.kind.StdKind.{StdKind}
use Rattle.plcx_std.specs.declared.kind.StdKind.TheVariants as kind
use Rattle.plcx_std.specs.Pins.{Pin, pins}
use Rattle.plcx_std.specs.State.{stepped, values}
use Rattle.plcx_types.specs.Lists.{Each}
use Rattle.plcx_meaning.specs.Base.{Path, is_declared}
use Rattle.plcx_meaning.specs.Standard.{Leaves, state_of, put_values, called}
use Rattle.plcx_meaning.specs.Evaluate.{DiagramState}
use Rattle.plcx_meaning.specs.Execute.{TextState}
use Rattle.plcx_meaning.specs.Same.{Agree}
use Rattle.plcx_meaning.proofs.Agree.{agree_set}

pub declared_leaf : (x : List ℕ) (p : Path) → is_own x ≡ false → is_declared p ≡ true → is_declared (x ∷ p) ≡ true
declared_leaf x p own h = and_from (not (is_own x)) (is_declared p) (not_from_false (is_own x) own) h

pub declared_parts : (x : List ℕ) (p : Path) → is_declared (x ∷ p) ≡ true → (is_own x ≡ false) × (is_declared p ≡ true)
declared_parts x p h = let parts = and_parts (not (is_own x)) (is_declared p) h in (not-true (is_own x) parts.0, parts.1)

-- no pin has a name that the compiler keeps for itself
all_declared : (ps : List Pin) → list_all (λ (p : Pin). not (is_own (in_lower_case p.name))) ps ≡ true → Each (λ (p : Pin). is_own (in_lower_case p.name) ≡ false) ps
all_declared [] h = tt
all_declared (p ∷ ps) h =
    let parts = and_parts (not (is_own (in_lower_case p.name))) (list_all (λ (p : Pin). not (is_own (in_lower_case p.name))) ps) h in
    (not-true (is_own (in_lower_case p.name)) parts.0, all_declared ps parts.1)

pins_pass : (k : StdKind) → list_all (λ (p : Pin). not (is_own (in_lower_case p.name))) (pins k) ≡ true
pins_pass kind.Ton = refl
pins_pass kind.Tof = refl
pins_pass kind.Tp = refl
pins_pass kind.Ctu = refl
pins_pass kind.Ctd = refl
pins_pass kind.Ctud = refl
pins_pass kind.Sr = refl
pins_pass kind.Rs = refl
pins_pass kind.RTrig = refl
pins_pass kind.FTrig = refl

pub pins_declared : (k : StdKind) → Each (λ (p : Pin). is_own (in_lower_case p.name) ≡ false) (pins k)
pins_declared k = all_declared (pins k) (pins_pass k)

-- the leaves, and 0 at each name that is the compiler's own
abbrev outside : Leaves → Leaves
outside at x = if is_own x then pos 0 else at x

-- a state depends on leaves of declared names alone
state_outside : (k : StdKind) (at : Leaves) → state_of k at ≡ state_of k (outside at)
state_outside kind.Ton at = refl
state_outside kind.Tof at = refl
state_outside kind.Tp at = refl
state_outside kind.Ctu at = refl
state_outside kind.Ctd at = refl
state_outside kind.Ctud at = refl
state_outside kind.Sr at = refl
state_outside kind.Rs at = refl
state_outside kind.RTrig at = refl
state_outside kind.FTrig at = refl

state_same : (k : StdKind) (a b : Leaves) → ((x : List ℕ) → is_own x ≡ false → a x ≡ b x) → state_of k a ≡ state_of k b
state_same k a b same = state_outside k a ∙ ap (state_of k) (fun_ext (λ x. at x (is_own x) refl)) ∙ sym (state_outside k b)
  where
    at : (x : List ℕ) (o : Bool) → is_own x ≡ o → (if o then pos 0 else a x) ≡ (if o then pos 0 else b x)
    at x true e = refl
    at x false e = same x e

agree_values : (ps : List Pin) → Each (λ (p : Pin). is_own (in_lower_case p.name) ≡ false) ps → (vs : List Value) (path : Path) → is_declared path ≡ true → (d : DiagramState) (g : TextState) → Agree d g
    → Agree (record d { store = put_values ps vs path d.store }) (record g { store = put_values ps vs path g.store })
agree_values [] own vs path h d g a = a
agree_values (p ∷ ps) own [] path h d g a = a
agree_values (p ∷ ps) own (v ∷ vs) path h d g a =
    agree_values ps own.1 vs path h _ _ (agree_set d g (in_lower_case p.name ∷ path) v.n (declared_leaf (in_lower_case p.name) path own.0 h) a)

pub agree_called : (k : StdKind) (time : ℕ) (path : Path) → is_declared path ≡ true → (d : DiagramState) (g : TextState) → Agree d g
    → Agree (record d { store = called k time path d.store }) (record g { store = called k time path g.store })
agree_called k time path h d g a =
    let same : state_of k (λ x. d.store (x ∷ path)) ≡ state_of k (λ x. g.store (x ∷ path)) = state_same k _ _ (λ x own. a.stores (x ∷ path) (declared_leaf x path own h)) in
    subst (λ s. Agree (record d { store = called k time path d.store }) (record g { store = put_values (pins k) (values (stepped s (pos time))) path g.store })) same
    (agree_values (pins k) (pins_declared k) (values (stepped (state_of k (λ x. d.store (x ∷ path))) (pos time))) path h d g a)
