-- A file has one verdict.
use Rattle.std.proofs.Common.{◌≡◌, ◌≢◌, ℕ, List, refl, sym, ap, ap₂, ◌∙◌, subst, Option, Some, None, arith}
use Rattle.plcx_xml.specs.Faults.{Fails}
use Rattle.plcx_xml.specs.StandsForTree.{IsTreeOf}
use Rattle.plcx_xml.specs.declared.error.XmlError.{XmlError}
use Rattle.plcx_xml.specs.declared.error.XmlError.TheVariants as xml
use Rattle.plcx_xml.specs.declared.tree.Element.{Element}
use Rattle.plcx_model.specs.declared.broken.Broken as model
use Rattle.plcx_model.specs.declared.broken.Place.{Place}
use Rattle.plcx_model.specs.declared.broken.Place.TheVariants.{Byte}
use Rattle.plcx_model.specs.declared.project.Project as model'
use Rattle.plcx_profile.specs.Profile.{IsBroken, ProfileVerdict, project_in}
use Rattle.plcx_rules.specs.CheckVerdict.{CheckVerdict}
use Rattle.plcx_command.specs.Verdict.{Verdict, Broken, Breaks, InTree, InProfile, InProject, Keeps, IsVerdict, Refused, Passed, FileVerdict, TooLong, Within, tree_rule}

some_same : {A : Type 0} (x y : A) → Some x ≡ Some y → x ≡ y
some_same x y h = cc

-- a fault that is a rule is no want of memory
no-memory : (e : XmlError) (b : model.Broken) → tree_rule e ≡ Some b → e ≢ xml.NoMemory
no-memory (xml.NotUtf8 at) b h = λ e. cc
no-memory (xml.Token at) b h = λ e. cc
no-memory (xml.Nesting at) b h = λ e. cc
no-memory (xml.TooDeep at) b h = λ e. cc
no-memory xml.NoMemory b h = absurd (cc)

module _
    (one_fault : (bytes : List ℕ) (e f : XmlError) → e ≢ xml.NoMemory → f ≢ xml.NoMemory → Fails bytes e → Fails bytes f → e ≡ f)
    (no_fault : (bytes : List ℕ) (e : XmlError) (root : Element) → e ≢ xml.NoMemory → Fails bytes e → IsTreeOf bytes root → ⊥)
    (one_root : (bytes : List ℕ) (a b : Element) → IsTreeOf bytes a → IsTreeOf bytes b → a ≡ b)
    (one_profile : (root : Element) (v w : Option (ℕ × ℕ)) → ProfileVerdict root v → ProfileVerdict root w → v ≡ w)
    (one_check : (project : model'.Project) (v w : Option model.Broken) → CheckVerdict project v → CheckVerdict project w → v ≡ w)
  where
    same-broken : (root : Element) (b c : model.Broken) → IsBroken root b → IsBroken root c → b ≡ c
    same-broken root b c (n, at, h) (m, at', k) =
        let same : Some (b.rule.0, n) ≡ Some (c.rule.0, m) = one_profile root (Some (b.rule.0, n)) (Some (c.rule.0, m)) h k in
        let pair : (b.rule.0, n) ≡ (c.rule.0, m) = some_same (b.rule.0, n) (c.rule.0, m) same in
        let place : b.place ≡ c.place = at ∙ ap (λ (x : ℕ × ℕ). Byte x.1) pair ∙ sym at' in
        ap₂ (λ (r : ℕ) (x : Place). record { rule = record { 0 = r }; place = x }) (ap (λ (x : ℕ × ℕ). x.0) pair) place

    no-broken : (root : Element) (b : model.Broken) → IsBroken root b → ProfileVerdict root None → ⊥
    no-broken root b (n, at, h) none = let same = one_profile root (Some (b.rule.0, n)) None h none in cc

    one-broken : (bytes : List ℕ) (b c : model.Broken) → Breaks bytes b → Breaks bytes c → b ≡ c
    one-broken bytes b c (InTree e f r) (InTree e' f' r') =
        let same : e ≡ e' = one_fault bytes e e' (no-memory e b r) (no-memory e' c r') f f' in
        some_same b c (sym r ∙ ap tree_rule same ∙ r')
    one-broken bytes b c (InTree e f r) (InProfile root t h) = absurd (no_fault bytes e root (no-memory e b r) f t)
    one-broken bytes b c (InTree e f r) (InProject root t none h) = absurd (no_fault bytes e root (no-memory e b r) f t)
    one-broken bytes b c (InProfile root t h) (InTree e f r) = absurd (no_fault bytes e root (no-memory e c r) f t)
    one-broken bytes b c (InProject root t none h) (InTree e f r) = absurd (no_fault bytes e root (no-memory e c r) f t)
    one-broken bytes b c (InProfile root t h) (InProfile root' t' h') =
        same-broken root' b c (subst (λ (r : Element). IsBroken r b) (one_root bytes root root' t t') h) h'
    one-broken bytes b c (InProfile root t h) (InProject root' t' none h') =
        absurd (no-broken root' b (subst (λ (r : Element). IsBroken r b) (one_root bytes root root' t t') h) none)
    one-broken bytes b c (InProject root' t' none h') (InProfile root t h) =
        absurd (no-broken root' c (subst (λ (r : Element). IsBroken r c) (one_root bytes root root' t t') h) none)
    one-broken bytes b c (InProject root t none h) (InProject root' t' none' h') =
        let found : CheckVerdict (project_in root') (Some b) = subst (λ (r : Element). CheckVerdict (project_in r) (Some b)) (one_root bytes root root' t t') h in
        some_same b c (one_check (project_in root') (Some b) (Some c) found h')

    not-both : (bytes : List ℕ) (b : model.Broken) (p : model'.Project) → Breaks bytes b → Keeps bytes p → ⊥
    not-both bytes b p (InTree e f r) k = no_fault bytes e k.root (no-memory e b r) f k.tree
    not-both bytes b p (InProfile root t h) k = no-broken k.root b (subst (λ (r : Element). IsBroken r b) (one_root bytes root k.root t k.tree) h) k.profile
    not-both bytes b p (InProject root t none h) k =
        let same : project_in root ≡ p = ap (λ (r : Element). project_in r) (one_root bytes root k.root t k.tree) ∙ sym k.stands in
        let both : Some b ≡ None = one_check p (Some b) None (subst (λ (q : model'.Project). CheckVerdict q (Some b)) same h) k.checks in
        cc

    same-verdict : (bytes : List ℕ) (v w : Verdict) → IsVerdict bytes v → IsVerdict bytes w → v ≡ w
    same-verdict bytes _ _ (Refused {b} h) (Refused {b = c} k) = ap Broken (one-broken bytes b c h k)
    same-verdict bytes _ _ (Refused {b} h) (Passed p k) = absurd (not-both bytes b p h k)
    same-verdict bytes _ _ (Passed p k) (Refused {b} h) = absurd (not-both bytes b p h k)
    same-verdict bytes _ _ (Passed p k) (Passed q l) = refl

    pub same-file : (bytes : List ℕ) (v w : Verdict) → FileVerdict bytes v → FileVerdict bytes w → v ≡ w
    same-file bytes v w (TooLong l) (TooLong l') = refl
    same-file bytes v w (TooLong l) (Within k h) = absurd (omega arith)
    same-file bytes v w (Within k h) (TooLong l) = absurd (omega arith)
    same-file bytes v w (Within k h) (Within k' h') = same-verdict bytes v w h h'
