-- A ready unit is never stuck: statements, bodies and blocks.
use Rattle.std.proofs.Common.{◌≡◌, ◌≢◌, ℕ, zero, suc, ℤ, Bool, true, false, not, ◌&&◌, ◌||◌, is_some, List, [], ◌∷◌, Option, Some, None, refl, sym, ap, ◌∙◌, subst, if◌then◌else◌}
use Rattle.std.specs.Str.{bytes_eq}
use Rattle.plcx_types.specs.declared.ty.Ty.{Ty}
use Rattle.plcx_types.specs.declared.ty.Ty.TheVariants as ty
use Rattle.plcx_types.specs.Name.{in_lower_case}
use Rattle.plcx_types.specs.TypeName.{type_named}
use Rattle.plcx_types.proofs.TypeTable.{same_refl}
use Rattle.plcx_std.specs.declared.kind.StdKind.{StdKind}
use Rattle.plcx_std.specs.Kind.{kind_named}
use Rattle.plcx_types.specs.Lists.{Each}
use Rattle.plcx_meaning.specs.Base.{Path, Outcome, Stuck, Site, top}
use Rattle.plcx_meaning.specs.Tree.{Class, Local, Input, Output, InOut, Temp, Expression, Number, Name, Member, Apply, Not, Binary, Argument, Statement, Assign, Call, If, While, Case, Statements, no_statement, statement, Arms, no_arm, arm, PouText}
use Rattle.plcx_meaning.specs.Layout.{Variable, variables_of, variable_named, World, Elementary, Composed, composed, Scope, is_constant}
use Rattle.plcx_meaning.specs.Diagram.{is_program}
use Rattle.plcx_meaning.specs.Run as run
use Rattle.plcx_meaning.specs.Run.{put_inputs}
use Rattle.plcx_meaning.specs.Execute.{Instance, referent_by, referent, referent_in, elementary, TextState, Frame, Formal, Takes, Binds, NoFormal, formal, has_leaf, store_argument, store_arguments, TextCalls, statement_runs, statements_run, arms_run, list_runs, pou_runs, selects, block_named, program_named, world_of, with_standard, blocks_run, scope_of, text_machine}
use Rattle.plcx_meaning.specs.Typed.{referent_type, variable_in, part_in, can_store, can_bind}
use Rattle.plcx_meaning.specs.Ready.{TargetIsReady, BindingIsReady, ValueIsReady, StatementIsReady, StatementsAreReady, ArmsAreReady, unit_knows, VariableIsReady, user_block, TextNests, PouIsReady, IsReady}
use Rattle.plcx_meaning.proofs.Stuck.{goes_not_stuck, value_good, here, Goes, goes_end, goes_then, goes_value, goes_typed, goes_truth, goes_if, assign_goes, turns_go}

-- a variable of a type
pub elementary_type : (class : Class) (t : Ty) → referent_type (elementary class t) ≡ Some t
elementary_type Local t = refl
elementary_type Input t = refl
elementary_type Output t = refl
elementary_type InOut t = refl
elementary_type Temp t = refl

elementary_place : (world : World) (v : Variable) (t : Ty) → type_named v.ty ≡ Some t → referent world (Some v) ≡ elementary v.class t
elementary_place world v t h = ap (λ o. referent_by (elim o [ Some u ↦ Elementary u | None ↦ Composed (composed world v.ty) ]) v.class v.ty) h

pub variable_place : (c : Scope) (x : List ℕ) (t : Ty) (test : Variable → Bool) → (h : TargetIsReady c x t test) → referent c.world (variable_in c x) ≡ elementary h.variable.class t
variable_place c x t test h = ap (referent c.world) h.found ∙ elementary_place c.world h.variable t h.typed

pub variable_type : (c : Scope) (x : List ℕ) (t : Ty) (test : Variable → Bool) → TargetIsReady c x t test → referent_type (referent c.world (variable_in c x)) ≡ Some t
variable_type c x t test h = ap referent_type (variable_place c x t test h) ∙ elementary_type h.variable.class t

bound_leaf : (class : Class) (t : Ty) → class ≢ Temp → has_leaf (elementary class t) t ≡ true
bound_leaf Local t h = same_refl t
bound_leaf Input t h = same_refl t
bound_leaf Output t h = same_refl t
bound_leaf InOut t h = same_refl t
bound_leaf Temp t h = absurd (h refl)

not_passing : (v : Variable) → can_bind v ≡ true → v.class ≢ Temp
not_passing v h e = by_class v.class (is_constant v.mark) h e
  where
    by_class : (class : Class) (b : Bool) → (elim class [ Local ↦ not b | Input ↦ false | Output ↦ not b | InOut ↦ not b | Temp ↦ false ]) ≡ true → class ≢ Temp
    by_class Temp b k e = cc
    by_class Local b k e = cc
    by_class Input b k e = cc
    by_class Output b k e = cc
    by_class InOut b k e = cc

binding_leaf : (c : Scope) (site : Site) (e : Expression) (t : Ty) → BindingIsReady c e t → has_leaf (referent_in (here c site) e) t ≡ true
binding_leaf c site (Name x) t h = ap (λ p. has_leaf p t) (variable_place c x t can_bind h) ∙ bound_leaf h.variable.class t (not_passing h.variable h.passes)
binding_leaf c site (Number v) t h = absurd h
binding_leaf c site (Member i x) t h = absurd h
binding_leaf c site (Apply f es) t h = absurd h
binding_leaf c site (Not e) t h = absurd h
binding_leaf c site (Binary op a b) t h = absurd h

module _ (c : Scope) (site : Site) where
  argument_goes : (way : Formal) (a : Argument) → ValueIsReady c a.value way → (p : Path) (old : TextState) (f : Frame) (g : TextState) (go : TextState → Outcome TextState Frame) → ((h : TextState) → Goes (go h))
      → Goes (store_argument way a (here c site) p old f g go)
  argument_goes (Takes t) a r p old f g go next = goes_value _ old _ (value_good a.value c site old.store f t r.typed) (λ v same. goes_typed v.ty t _ same (next _))
  argument_goes (Binds t) a r p old f g go next = rw (binding_leaf c site a.value t r) (next g)
  argument_goes NoFormal a r p old f g go next = absurd r

  arguments_go : (args : List Argument) (i : List ℕ) → Each (λ (a : Argument). ValueIsReady c a.value (formal c.world (part_in c i a.formal))) args
      → (old : TextState) (f : Frame) (g : TextState) (go : TextState → Outcome TextState Frame) → ((h : TextState) → Goes (go h)) → Goes (store_arguments args (here c site) i old f g go)
  arguments_go [] i r old f g go next = next g
  arguments_go (a ∷ rest) i r old f g go next = argument_goes (formal c.world (part_in c i a.formal)) a r.0 _ old f g _ (λ h. arguments_go rest i r.1 old f h go next)

  module _ (call : TextCalls) (calls : (i type : List ℕ) → referent c.world (variable_in c i) ≡ Instance type → (at : Site) (g : TextState) → Goes (call type at g)) where
    mutual
      statement_goes : (s : Statement) → StatementIsReady c s → (g : TextState) (f : Frame) → Goes (statement_runs s (here c site) call g f)
      statement_goes (Assign x e) r g f =
          goes_value _ g _ (value_good e c site g.store f r.0 r.2.typed) (λ v same. assign_goes _ x site v g f r.0 (variable_type c x r.0 can_store r.1) same)
      statement_goes (Call i args) r g f =
          rw (r.instance, r.bound) (arguments_go args i r.values g f g _ (λ h. goes_then _ _ (calls i r.type r.instance _ h) (λ k u. goes_end k f)))
      statement_goes (If e ss) r g f = goes_truth _ g _ (value_good e c site g.store f ty.Bool r.0.typed) (λ b. goes_if b _ _ (statements_go ss r.1 g f) (goes_end g f))
      statement_goes (While e ss) r g f = turns_go _ _ (λ h l. value_good e c site h.store l ty.Bool r.0.typed) (λ h l. statements_go ss r.1 h l) g.left g f
      statement_goes (Case e arms) r g f = goes_value _ g _ (value_good e c site g.store f ty.Dint r.0.typed) (λ v same. goes_typed v.ty ty.Dint _ same (arms_go arms r.3 v.n g f))

      statements_go : (ss : Statements) → StatementsAreReady c ss → (g : TextState) (f : Frame) → Goes (statements_run ss (here c site) call g f)
      statements_go no_statement r g f = goes_end g f
      statements_go (statement s ss) r g f = goes_then _ _ (statement_goes s r.0 g f) (λ h k. statements_go ss r.1 h k)

      arms_go : (arms : Arms) → ArmsAreReady c arms → (n : ℤ) (g : TextState) (f : Frame) → Goes (arms_run arms (here c site) call n g f)
      arms_go no_arm r n g f = goes_end g f
      arms_go (arm label ss rest) r n g f = goes_if (selects n label) _ _ (statements_go ss r.0 g f) (arms_go rest r.1 n g f)

    list_goes : (ss : List Statement) → Each (StatementIsReady c) ss → (g : TextState) (f : Frame) → Goes (list_runs ss (here c site) call g f)
    list_goes [] r g f = goes_end g f
    list_goes (s ∷ ss) r g f = goes_then _ _ (statement_goes s r.0 g f) (λ h k. list_goes ss r.1 h k)

-- what is found in a list has what each of it has
pub found_has : (P : Variable → Type 0) (key : List ℕ) (vs : List Variable) (v : Variable) → Each P vs → variable_named key vs ≡ Some v → P v
found_has P key [] v all h = absurd (cc)
found_has P key (w ∷ vs) v all h = by_test (bytes_eq (in_lower_case w.name) key) (found_has P key vs v all.1) h
  where
    by_test : (b : Bool) → (variable_named key vs ≡ Some v → P v) → (if b then Some w else variable_named key vs) ≡ Some v → P v
    by_test true later e = let same : w ≡ v = cc in subst P same all.0
    by_test false later e = later e

pub block_has : (P : PouText → Type 0) (name : List ℕ) (unit : List PouText) (q : PouText) → Each P unit → block_named name unit ≡ Some q → P q
block_has P name [] q all h = absurd (cc)
block_has P name (p ∷ ps) q all h = by_test (not (is_program p.kind) && bytes_eq (in_lower_case p.name) (in_lower_case name)) (block_has P name ps q all.1) h
  where
    by_test : (b : Bool) → (block_named name ps ≡ Some q → P q) → (if b then Some p else block_named name ps) ≡ Some q → P q
    by_test true later e = let same : p ≡ q = cc in subst P same all.0
    by_test false later e = later e

program_has : (P : PouText → Type 0) (name : List ℕ) (unit : List PouText) (q : PouText) → Each P unit → program_named name unit ≡ Some q → P q
program_has P name [] q all h = absurd (cc)
program_has P name (p ∷ ps) q all h = by_test (is_program p.kind && bytes_eq (in_lower_case p.name) (in_lower_case name)) (program_has P name ps q all.1) h
  where
    by_test : (b : Bool) → (program_named name ps ≡ Some q → P q) → (if b then Some p else program_named name ps) ≡ Some q → P q
    by_test true later e = let same : p ≡ q = cc in subst P same all.0
    by_test false later e = later e

-- the variable of an instance
record IsInstance (o : Option Variable) (type : List ℕ) : Type 0 where
  variable : Variable
  found : o ≡ Some variable
  same : variable.ty ≡ type
  composite : type_named variable.ty ≡ None

not_instance : (class : Class) (t : Ty) (type : List ℕ) → elementary class t ≢ Instance type
not_instance Local t type e = cc
not_instance Input t type e = cc
not_instance Output t type e = cc
not_instance InOut t type e = cc
not_instance Temp t type e = cc

instance_of : (world : World) (o : Option Variable) (type : List ℕ) → referent world o ≡ Instance type → IsInstance o type
instance_of world None type h = absurd (cc)
instance_of world (Some v) type h = by_type (type_named v.ty) refl h
  where
    by_type : (o : Option Ty) → type_named v.ty ≡ o → referent_by (elim o [ Some t ↦ Elementary t | None ↦ Composed (composed world v.ty) ]) v.class v.ty ≡ Instance type → IsInstance (Some v) type
    by_type (Some t) e k = absurd (not_instance v.class t type k)
    by_type None e k = let same : v.ty ≡ type = cc in record { variable = v; found = refl; same = same; composite = e }

some_is : {A : Type 0} (o : Option A) → is_some o ≡ true → (x : A) × (o ≡ Some x)
some_is None h = absurd (cc)
some_is (Some x) h = (x, refl)

module _ (unit : List PouText) (ready : IsReady unit) (time : ℕ) where
  pou_goes : (p : PouText) → PouIsReady unit p → (call : TextCalls) → ((i type : List ℕ) → referent (world_of unit) (variable_in (scope_of unit p) i) ≡ Instance type → (at : Site) (g : TextState) → Goes (call type at g))
      → (site : Site) (g : TextState) → Goes (pou_runs p (world_of unit) call site g)
  pou_goes p r call calls site g = goes_then _ _ (list_goes (scope_of unit p) site call calls p.body r.body g _) (λ h f. goes_end h tt)

  -- the block of a variable that is an instance of no standard block
  known_block : (v : Variable) → type_named v.ty ≡ None → kind_named v.ty ≡ None → unit_knows unit v.ty ≡ true → is_some (block_named v.ty unit) ≡ true
  known_block v e k known =
      sym (ap (λ o. is_some o || (is_some (kind_named v.ty) || is_some (block_named v.ty unit))) e ∙ ap (λ o. is_some o || is_some (block_named v.ty unit)) k) ∙ known

  its_block : (v : Variable) → type_named v.ty ≡ None → kind_named v.ty ≡ None → user_block unit v ≡ block_named v.ty unit
  its_block v e k =
      ap (λ o. if is_some o || is_some (kind_named v.ty) then None else block_named v.ty unit) e
      ∙ ap (λ o. if is_some o then None else block_named v.ty unit) k

  -- the calls of a POU go on where those of the blocks of its instances do
  calls_at : (n : ℕ) (p : PouText) → PouIsReady unit p
      → ((i : List ℕ) (v : Variable) → variable_in (scope_of unit p) i ≡ Some v → (q : PouText) → block_named v.ty unit ≡ Some q → user_block unit v ≡ Some q → (at : Site) (g : TextState) → Goes (blocks_run n time unit v.ty at g))
      → (i type : List ℕ) → referent (world_of unit) (variable_in (scope_of unit p) i) ≡ Instance type → (at : Site) (g : TextState) → Goes (with_standard time (blocks_run n time unit) type at g)
  calls_at n p r users i type h at g =
      let it = instance_of (world_of unit) (variable_in (scope_of unit p) i) type h in
      let known = found_has (VariableIsReady unit p.kind) (in_lower_case i) (variables_of p.blocks) it.variable r.variables it.found in
      subst (λ name. Goes (with_standard time (blocks_run n time unit) name at g)) it.same (by_kind it.variable it.found it.composite known.known (kind_named it.variable.ty) refl)
    where
      by_kind : (v : Variable) → variable_in (scope_of unit p) i ≡ Some v → type_named v.ty ≡ None → unit_knows unit v.ty ≡ true → (o : Option StdKind) → kind_named v.ty ≡ o → Goes (with_standard time (blocks_run n time unit) v.ty at g)
      by_kind v found e known (Some k) same = rw (same, with_standard) (goes_end _ tt)
      by_kind v found e known None same =
          let q = some_is (block_named v.ty unit) (known_block v e same known) in
          rw (same, with_standard) (users i v found q.0 q.1 (its_block v e same ∙ q.1) at g)

  calls_go : (n : ℕ) (p : PouText) → PouIsReady unit p → TextNests n unit p → (i type : List ℕ) → referent (world_of unit) (variable_in (scope_of unit p) i) ≡ Instance type
      → (at : Site) (g : TextState) → Goes (with_standard time (blocks_run n time unit) type at g)
  calls_go zero p r nests = calls_at zero p r (λ i v found q named user at g.
      let none : user_block unit v ≡ None = found_has (λ (w : Variable). user_block unit w ≡ None) (in_lower_case i) (variables_of p.blocks) v nests found in absurd (cc))
  calls_go (suc m) p r nests = calls_at (suc m) p r (λ i v found q named user at g.
      let rest : TextNests m unit q = found_has (λ (w : Variable). (b : PouText) → user_block unit w ≡ Some b → TextNests m unit b) (in_lower_case i) (variables_of p.blocks) v nests found q user in
      let its : PouIsReady unit q = block_has (PouIsReady unit) v.ty unit q ready.pous named in
      rw (named) (pou_goes q its (with_standard time (blocks_run m time unit)) (calls_go m q its rest) at g))

  pub program_goes : (name : List ℕ) (p : PouText) → program_named name unit ≡ Some p → (turns : ℕ) (inputs : List run.Input) (g : TextState) → (text_machine unit p).scan turns time inputs g ≢ Stuck
  program_goes name p named turns inputs g =
      let its : PouIsReady unit p = program_has (PouIsReady unit) name unit p ready.pous named in
      goes_not_stuck _ (pou_goes p its (with_standard time (blocks_run 16 time unit)) (calls_go 16 p its its.nests) top _)
