-- A ready unit is never stuck: what expressions give, and where a step goes on.
use Rattle.std.proofs.Common.{◌≡◌, ◌≢◌, ℕ, zero, suc, ℤ, Bool, true, false, List, [], ◌∷◌, Option, Some, None, map, refl, sym, ap, ◌∙◌, subst, if◌then◌else◌}
use Rattle.std.specs.Option.{option_map, option_and_then}
use Rattle.std.specs.declared.result.Result.{Result}
use Rattle.std.specs.declared.result.Result.TheVariants.{Ok, Err}
use Rattle.plcx_types.specs.declared.fault.Fault.{Fault}
use Rattle.plcx_types.specs.declared.ty.Ty.{Ty}
use Rattle.plcx_types.specs.declared.ty.Ty.TheVariants as ty
use Rattle.plcx_types.specs.TypeName.{same_ty}
use Rattle.plcx_types.specs.Value.{Value}
use Rattle.plcx_types.proofs.TypeTable.{same_refl}
use Rattle.plcx_funcs.specs.declared.func.Func.{Func}
use Rattle.plcx_funcs.specs.declared.func.Func.TheVariants as func
use Rattle.plcx_funcs.specs.Names.{function_named}
use Rattle.plcx_funcs.specs.Applied.{applied}
use Rattle.plcx_meaning.specs.Base.{Path, OutOfTurns, Outcome, Ended, Stopped, Stuck, then_do, spend, Site}
use Rattle.plcx_meaning.specs.Tree.{Class, Local, Input, Output, InOut, Temp, Expression, Number, Name, Member, Apply, Not, Binary, Expressions, no_expression, expression}
use Rattle.plcx_meaning.specs.Layout.{Variable, World, Meaning, Elementary, Composed, meaning, Scope}
use Rattle.plcx_meaning.specs.Functions.{Answer, Given, Faulty, Missing, on_value, can_apply, out_type, group_of, answer, call_at, call_function, call_named}
use Rattle.plcx_meaning.specs.Execute.{Referent, Temporary, Kept, Bound, Instance, Unknown, TextSetting, TextState, Frame, read, read_member, read_output, function_of, value_of, values_of, with_value, with_truth, assign, turns}
use Rattle.plcx_meaning.specs.Typed.{referent_type, read_type, member_type, is_operator, type_at, result_type, call_type, expression_type, expression_types, part_in}

-- a value with this property, or a fault
abbrev pub HoldsAt : {A : Type 0} → (A → Type 0) → Answer A → Type 0
HoldsAt P (Given x) = P x
HoldsAt P (Faulty fault) = Unit {0}
HoldsAt P Missing = ⊥

pub record Holds {A : Type 0} (P : A → Type 0) (a : Answer A) : Type 0 where
  pub is : HoldsAt P a

abbrev pub Good : Ty → Answer Value → Type 0
Good t a = Holds (λ (v : Value). v.ty ≡ t) a

abbrev pub types_of : List Value → List Ty
types_of vs = map (λ (v : Value). v.ty) vs

holds_then : {A B : Type 0} {P : A → Type 0} {Q : B → Type 0} (a : Answer A) (go : A → Answer B) → Holds P a → ((x : A) → P x → Holds Q (go x)) → Holds Q (on_value a go)
holds_then (Given x) go h next = next x h.is
holds_then (Faulty fault) go h next = record { is = tt }
holds_then Missing go h next = absurd h.is

-- what an option gives
pub and_then_some : {A B : Type 0} (f : A → Option B) (o : Option A) (y : B) → option_and_then f o ≡ Some y → (x : A) × (o ≡ Some x) × (f x ≡ Some y)
and_then_some f None y h = absurd (cc)
and_then_some f (Some x) y h = (x, refl, h)

mapped_some : {A B : Type 0} (f : A → B) (o : Option A) (y : B) → option_map f o ≡ Some y → (x : A) × (o ≡ Some x) × (f x ≡ y)
mapped_some f None y h = absurd (cc)
mapped_some f (Some x) y h = (x, refl, cc)

-- calls
answer_good : (t : Ty) (r : Result Value Fault) → Good t (answer t r)
answer_good t (Ok v) = record { is = refl }
answer_good t (Err fault) = record { is = tt }

at_good : (f : Func) (vs : List Value) (o : Option Ty) (t : Ty) → option_and_then (type_at f (types_of vs)) o ≡ Some t → Good t (call_at f vs o)
at_good f vs None t h = absurd (cc)
at_good f vs (Some u) t h = by_test (can_apply f u (types_of vs)) h
  where
    by_test : (b : Bool) → (if b then Some (out_type f u) else None) ≡ Some t → Good t (if b then answer (out_type f u) (applied f u vs) else Missing)
    by_test true e = let same : out_type f u ≡ t = cc in subst (λ w. Good w (answer (out_type f u) (applied f u vs))) same (answer_good (out_type f u) (applied f u vs))
    by_test false e = absurd (cc)

call_good : (f : Func) (vs : List Value) (types : List Ty) (t : Ty) → types_of vs ≡ types → result_type f types ≡ Some t → Good t (call_function f vs)
call_good f vs types t same h = at_good f vs (group_of f (types_of vs)) t (subst (λ us. result_type f us ≡ Some t) (sym same) h)

named_good : (o : Option Func) (vs : List Value) (types : List Ty) (t : Ty) → types_of vs ≡ types → call_type o types ≡ Some t → Good t (call_named o vs)
named_good None vs types t same h = absurd (cc)
named_good (Some f) vs types t same h = by_test (is_operator f) h
  where
    by_test : (b : Bool) → (if b then None else result_type f types) ≡ Some t → Good t (call_function f vs)
    by_test true e = absurd (cc)
    by_test false e = call_good f vs types t same e

-- names and members
read_good : (p : Referent) (x : List ℕ) (site : Site) (s : Path → ℤ) (f : Frame) (t : Ty) → referent_type p ≡ Some t → Good t (read p x site s f)
read_good (Temporary u) x site s f t h = record { is = cc }
read_good (Kept u) x site s f t h = record { is = cc }
read_good (Bound u) x site s f t h = record { is = cc }
read_good (Instance type) x site s f t h = absurd (cc)
read_good Unknown x site s f t h = absurd (cc)

within_good : (m : Meaning) (class : Class) (p : Path) (s : Path → ℤ) (t : Ty) → read_type m class ≡ Some t → Good t (read_member m class p s)
within_good (Elementary u) Output p s t h = record { is = cc }
within_good (Elementary u) Local p s t h = absurd (cc)
within_good (Elementary u) Input p s t h = absurd (cc)
within_good (Elementary u) InOut p s t h = absurd (cc)
within_good (Elementary u) Temp p s t h = absurd (cc)
within_good (Composed vs) class p s t h = absurd (cc)

member_good : (world : World) (o : Option Variable) (p : Path) (s : Path → ℤ) (t : Ty) → member_type world o ≡ Some t → Good t (read_output world o p s)
member_good world None p s t h = absurd (cc)
member_good world (Some v) p s t h = within_good (meaning world v.ty) v.class p s t h

-- where a statement of a scope stands
abbrev pub here : Scope → Site → TextSetting
here c site = record { world = c.world; variables = c.own; site = site }

mutual
  pub value_good : (e : Expression) (c : Scope) (site : Site) (s : Path → ℤ) (f : Frame) (t : Ty) → expression_type c e ≡ Some t → Good t (value_of e (here c site) s f)
  value_good (Number v) c site s f t h = record { is = cc }
  value_good (Name x) c site s f t h = read_good _ x site s f t h
  value_good (Member i x) c site s f t h = member_good c.world (part_in c i x) _ s t h
  value_good (Apply g es) c site s f t h =
      let all = and_then_some (call_type (function_named g)) (expression_types c es) t h in
      holds_then (values_of es (here c site) s f) (call_named (function_named g)) (values_good es c site s f all.0 all.1) (λ vs same. named_good (function_named g) vs all.0 t same all.2)
  value_good (Not e) c site s f t h =
      let one = and_then_some (λ u. result_type func.Not (u ∷ [])) (expression_type c e) t h in
      holds_then (value_of e (here c site) s f) _ (value_good e c site s f one.0 one.1) (λ v same. call_good func.Not (v ∷ []) (one.0 ∷ []) t (ap (λ u. u ∷ []) same) one.2)
  value_good (Binary op a b) c site s f t h =
      let one = and_then_some (λ u. option_and_then (λ w. result_type (function_of op) (u ∷ w ∷ [])) (expression_type c b)) (expression_type c a) t h in
      let two = and_then_some (λ w. result_type (function_of op) (one.0 ∷ w ∷ [])) (expression_type c b) t one.2 in
      holds_then (value_of a (here c site) s f) _ (value_good a c site s f one.0 one.1) (λ v left.
      holds_then (value_of b (here c site) s f) _ (value_good b c site s f two.0 two.1) (λ w right.
      call_good (function_of op) (v ∷ w ∷ []) (one.0 ∷ two.0 ∷ []) t (ap (λ u. u ∷ w.ty ∷ []) left ∙ ap (λ u. one.0 ∷ u ∷ []) right) two.2))

  values_good : (es : Expressions) (c : Scope) (site : Site) (s : Path → ℤ) (f : Frame) (types : List Ty) → expression_types c es ≡ Some types → Holds (λ vs. types_of vs ≡ types) (values_of es (here c site) s f)
  values_good no_expression c site s f types h = record { is = cc }
  values_good (expression e es) c site s f types h =
      let one = and_then_some (λ t. option_map (λ us. t ∷ us) (expression_types c es)) (expression_type c e) types h in
      let rest = mapped_some (λ us. one.0 ∷ us) (expression_types c es) types one.2 in
      holds_then (value_of e (here c site) s f) _ (value_good e c site s f one.0 one.1) (λ v left.
      holds_then (values_of es (here c site) s f) _ (values_good es c site s f rest.0 rest.1) (λ vs right.
      record { is = ap (λ u. u ∷ types_of vs) left ∙ ap (λ us. one.0 ∷ us) right ∙ rest.2 }))

-- a step that goes on
abbrev pub GoesAt : {L : Type 0} → Outcome TextState L → Type 0
GoesAt (Ended g l) = Unit {0}
GoesAt (Stopped s g) = Unit {0}
GoesAt Stuck = ⊥

pub record Goes {L : Type 0} (o : Outcome TextState L) : Type 0 where
  pub is : GoesAt o

pub goes_end : {L : Type 0} (g : TextState) (l : L) → Goes (Ended g l)
goes_end g l = record { is = tt }

pub goes_not_stuck : {L : Type 0} (o : Outcome TextState L) → Goes o → o ≢ Stuck
goes_not_stuck (Ended g l) h e = cc
goes_not_stuck (Stopped s g) h e = cc
goes_not_stuck Stuck h e = absurd h.is

pub goes_then : {L K : Type 0} (o : Outcome TextState L) (h : TextState → L → Outcome TextState K) → Goes o → ((g : TextState) (l : L) → Goes (h g l)) → Goes (then_do o h)
goes_then (Ended g l) h a next = next g l
goes_then (Stopped s g) h a next = record { is = tt }
goes_then Stuck h a next = absurd a.is

pub goes_value : {A L : Type 0} {P : A → Type 0} (a : Answer A) (g : TextState) (go : A → Outcome TextState L) → Holds P a → ((x : A) → P x → Goes (go x)) → Goes (with_value a g go)
goes_value (Given x) g go h next = next x h.is
goes_value (Faulty fault) g go h next = record { is = tt }
goes_value Missing g go h next = absurd h.is

-- a test that the value has its type
pub goes_typed : {L : Type 0} (u t : Ty) (o : Outcome TextState L) → u ≡ t → Goes o → Goes (if same_ty u t then o else Stuck)
goes_typed u t o e h = rw (ap (λ w. same_ty w t) e ∙ same_refl t) h

pub goes_truth : {L : Type 0} (a : Answer Value) (g : TextState) (go : Bool → Outcome TextState L) → Good ty.Bool a → ((b : Bool) → Goes (go b)) → Goes (with_truth a g go)
goes_truth a g go h next = goes_value a g _ h (λ v same. goes_typed v.ty ty.Bool _ same (next _))

pub goes_if : {L : Type 0} (b : Bool) (o p : Outcome TextState L) → Goes o → Goes p → Goes (if b then o else p)
goes_if true o p h k = h
goes_if false o p h k = k

goes_spend : {L : Type 0} (n : ℕ) (g : TextState) (go : ℕ → Outcome TextState L) → ((j : ℕ) → Goes (go j)) → Goes (spend n g go)
goes_spend zero g go h = record { is = tt }
goes_spend (suc n) g go h = h n

pub assign_goes : (p : Referent) (x : List ℕ) (site : Site) (v : Value) (g : TextState) (f : Frame) (t : Ty) → referent_type p ≡ Some t → v.ty ≡ t → Goes (assign p x site v g f)
assign_goes (Temporary u) x site v g f t h e = let same : v.ty ≡ u = cc in goes_typed v.ty u _ same (goes_end _ _)
assign_goes (Kept u) x site v g f t h e = let same : v.ty ≡ u = cc in goes_typed v.ty u _ same (goes_end _ _)
assign_goes (Bound u) x site v g f t h e = let same : v.ty ≡ u = cc in goes_typed v.ty u _ same (goes_end _ _)
assign_goes (Instance type) x site v g f t h e = absurd (cc)
assign_goes Unknown x site v g f t h e = absurd (cc)

pub turns_go : (test : TextState → Frame → Answer Value) (body : TextState → Frame → Outcome TextState Frame) → ((g : TextState) (f : Frame) → Good ty.Bool (test g f)) → ((g : TextState) (f : Frame) → Goes (body g f))
    → (n : ℕ) (g : TextState) (f : Frame) → Goes (turns n test body g f)
turns_go test body good go zero g f = goes_truth (test g f) g _ (good g f) (λ b. goes_if b (Stopped OutOfTurns g) (Ended g f) (record { is = tt }) (goes_end g f))
turns_go test body good go (suc n) g f =
    goes_truth (test g f) g _ (good g f) (λ b. goes_if b _ _ (goes_spend g.left g _ (λ j. goes_then _ _ (go (record g { left = j }) f) (λ h k. turns_go test body good go n h k))) (goes_end g f))
