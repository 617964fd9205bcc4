-- The statements of an element are ready.
use Rattle.std.proofs.Common.{◌≡◌, ◌≢◌, ℕ, pos, Bool, true, false, List, [], ◌∷◌, map, refl, sym, ap, subst}
use Rattle.std.specs.List.{Contains}
use Rattle.plcx_types.specs.declared.ty.Ty.{Ty}
use Rattle.plcx_types.specs.declared.ty.Ty.TheVariants as ty
use Rattle.plcx_types.specs.Range.{InRange}
use Rattle.plcx_types.proofs.TypeTable.{within_range}
use Rattle.plcx_types.specs.Lists.{Each}
use Rattle.plcx_meaning.specs.Base.{Memory, AtOutput, top}
use Rattle.plcx_meaning.specs.Tree.{Expression, Not, Binary, Or, Statement}
use Rattle.plcx_meaning.specs.Layout.{variables_of}
use Rattle.plcx_meaning.specs.Diagram.{Source, Rail, Literal, Wire, Back, Link, Storing, Stored, Inverted, Set, Reset, Port, Pou, Project}
use Rattle.plcx_meaning.specs.Execute.{Temporary, Kept, referent_of}
use Rattle.plcx_meaning.specs.Templates.{wire_name, memory_name, number, truth, not_if, wire, memory, source_text, or_text, link_text, store_text}
use Rattle.plcx_meaning.specs.Typed.{referent_type, can_store}
use Rattle.plcx_meaning.specs.Ready.{ExpressionIsReady, TargetIsReady, StatementIsReady}
use Rattle.plcx_meaning.specs.Fits.{Standing, CanBeWritten, SourceFits, LinkFits, StoringFits, EnableFits, InputFits, InOutFits, KindFits, ProjectFits}
use Rattle.plcx_meaning.specs.Fits as promise
use Rattle.plcx_meaning.proofs.Names.{wire_own, memory_own}
use Rattle.plcx_meaning.proofs.Statics.{here}
use Rattle.plcx_meaning.proofs.Asked.{VariableAsked, SourceAsked, LinkAsked}
use Rattle.plcx_meaning.proofs.ReadyFunctions.{HaveTypes, typed_as, binary_has, not_has}
use Rattle.plcx_meaning.proofs.ReadyPlaces.{scope, leaf_type, name_has, target_ready, own_ready}

pub zero_in_range : (t : Ty) → InRange t (pos 0)
zero_in_range ty.Bool = within_range ty.Bool (pos 0) refl
zero_in_range ty.Byte = within_range ty.Byte (pos 0) refl
zero_in_range ty.Word = within_range ty.Word (pos 0) refl
zero_in_range ty.Dword = within_range ty.Dword (pos 0) refl
zero_in_range ty.Lword = within_range ty.Lword (pos 0) refl
zero_in_range ty.Sint = within_range ty.Sint (pos 0) refl
zero_in_range ty.Int = within_range ty.Int (pos 0) refl
zero_in_range ty.Dint = within_range ty.Dint (pos 0) refl
zero_in_range ty.Lint = within_range ty.Lint (pos 0) refl
zero_in_range ty.Usint = within_range ty.Usint (pos 0) refl
zero_in_range ty.Uint = within_range ty.Uint (pos 0) refl
zero_in_range ty.Udint = within_range ty.Udint (pos 0) refl
zero_in_range ty.Ulint = within_range ty.Ulint (pos 0) refl
zero_in_range ty.Time = within_range ty.Time (pos 0) refl

module _ (project : Project) (p : Pou) (fits : ProjectFits project) (there : Contains project p) where
  abbrev pub Typed : Expression → Ty → Type 0
  Typed = ExpressionIsReady (scope project p fits there)

  abbrev pub Target : List ℕ → Ty → Type 0
  Target x t = TargetIsReady (scope project p fits there) x t can_store

  abbrev pub Ready : Statement → Type 0
  Ready = StatementIsReady (scope project p fits there)

  pub truth_has : (b : Bool) → Typed (truth b) ty.Bool
  truth_has true = record { typed = refl; range = within_range ty.Bool (pos 1) refl }
  truth_has false = record { typed = refl; range = within_range ty.Bool (pos 0) refl }

  bool_as : (e : Expression) (t : Ty) → t ≡ ty.Bool → Typed e t → Typed e ty.Bool
  bool_as e t same h = typed_as (scope project p fits there) e t ty.Bool same h

  -- under NOT only truth values stand
  pub not_if_has : (b : Bool) (e : Expression) (t : Ty) → (b ≡ true → t ≡ ty.Bool) → Typed e t → Typed (not_if b e) t
  not_if_has true e t truths h = typed_as (scope project p fits there) (Not e) ty.Bool t (sym (truths refl)) (not_has (scope project p fits there) e (bool_as e t (truths refl) h))
  not_if_has false e t truths h = h

  -- the compiler's own variables
  pub wire_target : (id : ℕ) (pin : List ℕ) (t : Ty) → referent_of (here project p top) (wire_name id pin) ≡ Temporary t → Target (wire_name id pin) t
  wire_target id pin t h = own_ready project p fits there (wire_name id pin) t (wire_own id pin) (ap referent_type h)

  pub wire_has : (id : ℕ) (pin : List ℕ) (t : Ty) → referent_of (here project p top) (wire_name id pin) ≡ Temporary t → Typed (wire id pin) t
  wire_has id pin t h = name_has (scope project p fits there) (wire_name id pin) t (ap referent_type h)

  pub memory_target : (k : Memory) (t : Ty) → referent_of (here project p top) (memory_name k) ≡ Kept t → Target (memory_name k) t
  memory_target k t h = own_ready project p fits there (memory_name k) t (memory_own k) (ap referent_type h)

  pub memory_has : (k : Memory) (t : Ty) → referent_of (here project p top) (memory_name k) ≡ Kept t → Typed (memory k) t
  memory_has k t h = name_has (scope project p fits there) (memory_name k) t (ap referent_type h)

  module _ (done : List (ℕ × Port)) where
    abbrev pub at : Standing
    at = record { project = project; pou = p; done = done }

    source_has : (t : Ty) (s : Source) → SourceFits at t s → SourceAsked (here project p top) done t s → Typed (source_text t s) t
    source_has t Rail h a = typed_as (scope project p fits there) (truth true) ty.Bool t (sym a) (truth_has true)
    source_has t (Literal negated n) h a = not_if_has negated (number t n) t a (record { typed = refl; range = h.0 })
    source_has t (Wire id pin) h a = wire_has id pin t a.0
    source_has t (Back id pin) h a = memory_has (AtOutput id pin) t a

    or_has : (e : Expression) (t : Ty) (ss : List Source) → t ≡ ty.Bool → Typed e t → Each (SourceFits at t) ss → Each (SourceAsked (here project p top) done t) ss → Typed (or_text e (map (source_text t) ss)) t
    or_has e t [] same h fit asked = h
    or_has e t (s ∷ ss) same h fit asked =
        or_has (Binary Or e (source_text t s)) t ss same
        (typed_as (scope project p fits there) (Binary Or e (source_text t s)) ty.Bool t (sym same)
        (binary_has (scope project p fits there) Or ty.Bool e (source_text t s) refl (bool_as e t same h) (bool_as (source_text t s) t same (source_has t s fit.0 asked.0))))
        fit.1 asked.1

    sources_have : (t : Ty) (s : Source) (ss : List Source) → (ss ≢ [] → t ≡ ty.Bool) → SourceFits at t s → Each (SourceFits at t) ss → SourceAsked (here project p top) done t s → Each (SourceAsked (here project p top) done t) ss
        → Typed (or_text (source_text t s) (map (source_text t) ss)) t
    sources_have t s [] truths fit all asked others = source_has t s fit asked
    sources_have t s (z ∷ ss) truths fit all asked others = or_has (source_text t s) t (z ∷ ss) (truths (λ e. cc)) (source_has t s fit asked) all others

    pub link_has : (link : Link) → LinkFits at link → LinkAsked (here project p top) done link → Typed (link_text link) link.ty
    link_has link h a = not_if_has link.negated _ link.ty h.negated (sources_have link.ty link.first link.others h.several h.first h.others a.first a.others)

    pub truth_link : (link : Link) → LinkFits at link → LinkAsked (here project p top) done link → link.ty ≡ ty.Bool → Typed (link_text link) ty.Bool
    truth_link link h a same = bool_as (link_text link) link.ty same (link_has link h a)

    pub links_have : (links : List Link) → Each (LinkFits at) links → Each (LinkAsked (here project p top) done) links → HaveTypes (scope project p fits there) (map link_text links) (map (λ (l : Link). l.ty) links)
    links_have [] h a = tt
    links_have (l ∷ links) h a = (link_has l h.0 a.0, links_have links h.1 a.1)

    -- a variable of the diagram that is written
    pub written : (x : List ℕ) (t : Ty) → promise.IsVariable (variables_of p.lists) x t → CanBeWritten (variables_of p.lists) x → VariableAsked (here project p top) (variables_of p.lists) x t → Target x t
    written x t is can asked = target_ready project p fits there x t t is can (leaf_type _ t asked.has)

    pub store_ready : (how : Storing) (x : List ℕ) (e : Expression) (t : Ty) → StoringFits how t → Target x t → Typed e t → Ready (store_text how x e)
    store_ready Stored x e t fit target h = (t, target, h)
    store_ready Inverted x e t fit target h = (ty.Bool, subst (Target x) fit target, not_has (scope project p fits there) e (bool_as e t fit h))
    store_ready Set x e t fit target h = (bool_as e t fit h, ((ty.Bool, subst (Target x) fit target, truth_has true), tt))
    store_ready Reset x e t fit target h = (bool_as e t fit h, ((ty.Bool, subst (Target x) fit target, truth_has false), tt))
