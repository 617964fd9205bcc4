-- The literals of a project that fits are of the types of their pins.
use Rattle.std.proofs.Common.{◌≡◌, ℕ, List, [], ◌∷◌, ◌++◌, Option, Some, None, refl}
use Rattle.std.proofs.Props.{props}
use Rattle.std.specs.Coded.{×_prop, Unit-prop}
use Rattle.plcx_types.specs.declared.ty.Ty.{Ty}
use Rattle.plcx_types.specs.Lists.{Each}
use Rattle.plcx_meaning.specs.Diagram.{Source, Rail, Literal, Wire, Back, Link, Enable, enable_links, InputPin, ElementKind, Still, In, Out, Contact, Coil, Pass, Label, Jump, Return, Function, Call, Port, DiagramElement, Pou, Project}
use Rattle.plcx_meaning.specs.Fits.{Standing, SourceFits, LinkFits, EnableFits, InputFits, KindFits, fixed_by, ElementsFit, PouFits, ProjectFits}
use Rattle.plcx_meaning.proofs.Lists.{each_weaker}
use Rattle.plcx_prepare.specs.Literals.{SuitsType, HasLiterals, InputHasLiterals, EnableHasLiterals, KindHasLiterals, ElementHasLiterals}

-- the literals of all networks of a POU
abbrev pub PouHasLiterals : Pou → Type 0
PouHasLiterals p = Each (Each ElementHasLiterals) p.networks

source_literals : (at : Standing) (t : Ty) (s : Source) → SourceFits at t s → SuitsType t s
source_literals at t Rail h = tt
source_literals at t (Literal negated n) h = h
source_literals at t (Wire id pin) h = tt
source_literals at t (Back id pin) h = tt

link_literals : (at : Standing) (link : Link) → LinkFits at link → HasLiterals link
link_literals at link h = (source_literals at link.ty link.first h.first, each_weaker (SourceFits at link.ty) (SuitsType link.ty) link.others (source_literals at link.ty) h.others)

enable_literals : (at : Standing) (enable : Enable) → EnableFits at enable → EnableHasLiterals enable
enable_literals at enable h = by enable.en refl
  where
    by : (o : Option Link) → enable.en ≡ o → Each HasLiterals (elim o [ Some link ↦ link ∷ [] | None ↦ [] ])
    by (Some link) e = (link_literals at link (h link e).0, tt)
    by None e = tt

kind_literals : (at : Standing) (k : ElementKind) → KindFits at k → KindHasLiterals k
kind_literals at Still h = tt
kind_literals at (In t negated operand) h = tt
kind_literals at (Out how x link) h = link_literals at link h.2
kind_literals at (Contact how operand link) h = link_literals at link h.1.0
kind_literals at (Coil how x link) h = link_literals at link h.1.0
kind_literals at (Pass link) h = link_literals at link h
kind_literals at (Label name) h = tt
kind_literals at (Jump label link) h = link_literals at link h.0
kind_literals at (Return link) h = link_literals at link h.0
kind_literals at (Function f t enable inputs negated) h = (enable_literals at enable h.1, each_weaker (LinkFits at) HasLiterals inputs (link_literals at) h.0.inputs)
kind_literals at (Call instance enable inputs in_outs outputs) h =
    (enable_literals at enable h.1, each_weaker (InputFits at h.0.within) InputHasLiterals inputs (λ (i : InputPin) fits. link_literals at i.link fits.1) h.0.inputs)

network_literals : (project : Project) (p : Pou) (done : List (ℕ × Port)) (es : List DiagramElement) → ElementsFit project p done es → Each ElementHasLiterals es
network_literals project p done [] h = tt
network_literals project p done (e ∷ es) h = (kind_literals (record { project = project; pou = p; done = done }) e.kind h.2, network_literals project p (fixed_by e ++ done) es h.3)

pub project_literals : (project : Project) → ProjectFits project → Each PouHasLiterals project
project_literals project fits = each_weaker (PouFits project) PouHasLiterals project
    (λ (p : Pou) one. each_weaker (ElementsFit project p []) (Each ElementHasLiterals) p.networks (λ es h. network_literals project p [] es h) one.networks) fits.pous

-- ---- they are so in one way

each_prop : {A : Type 0} (P : A → Type 0) (xs : List A) → ((x : A) → IsProp (P x)) → IsProp (Each P xs)
each_prop P [] prop = Unit-prop
each_prop P (x ∷ xs) prop = ×_prop (prop x) (each_prop P xs prop)

types_set : IsSet Ty
types_set = hlevel props

source_prop : (t : Ty) (s : Source) → IsProp (SuitsType t s)
source_prop t Rail = Unit-prop
source_prop t (Literal negated n) = hlevel (types_set, props)
source_prop t (Wire id pin) = Unit-prop
source_prop t (Back id pin) = Unit-prop

link_prop : (link : Link) → IsProp (HasLiterals link)
link_prop link = ×_prop (source_prop link.ty link.first) (each_prop (SuitsType link.ty) link.others (source_prop link.ty))

enable_prop : (enable : Enable) → IsProp (EnableHasLiterals enable)
enable_prop enable = each_prop HasLiterals (enable_links enable) link_prop

element_prop : (e : DiagramElement) → IsProp (ElementHasLiterals e)
element_prop e = by e.kind
  where
    by : (k : ElementKind) → IsProp (KindHasLiterals k)
    by Still = Unit-prop
    by (In t negated operand) = Unit-prop
    by (Out how x link) = link_prop link
    by (Contact how operand link) = link_prop link
    by (Coil how x link) = link_prop link
    by (Pass link) = link_prop link
    by (Label name) = Unit-prop
    by (Jump label link) = link_prop link
    by (Return link) = link_prop link
    by (Function f t enable inputs negated) = ×_prop (enable_prop enable) (each_prop HasLiterals inputs link_prop)
    by (Call instance enable inputs in_outs outputs) = ×_prop (enable_prop enable) (each_prop InputHasLiterals inputs (λ (i : InputPin). link_prop i.link))

pub literals_prop : (project : Project) → IsProp (Each PouHasLiterals project)
literals_prop project = each_prop PouHasLiterals project (λ (p : Pou). each_prop (Each ElementHasLiterals) p.networks (λ es. each_prop ElementHasLiterals es element_prop))
