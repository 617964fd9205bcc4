-- The counts of turns in the meaning of a text never show: a loop is its test, one turn, and the loop again.
use Rattle.std.proofs.Common.{◌≡◌, ◌≤◌, ℕ, zero, suc, ℤ, Bool, List, [], ◌∷◌, Option, Some, None, refl, sym, ap, ◌∙◌, arith, le_refl, if◌then◌else◌}
use Rattle.plcx_types.specs.declared.ty.Ty.TheVariants as ty
use Rattle.plcx_types.specs.Name.{in_lower_case}
use Rattle.plcx_types.specs.TypeName.{same_ty}
use Rattle.plcx_types.specs.Value.{Value}
use Rattle.plcx_std.specs.declared.kind.StdKind.{StdKind}
use Rattle.plcx_std.specs.Kind.{kind_named}
use Rattle.plcx_meaning.specs.Base.{Path, Site, put, is_true, OutOfTurns, Outcome, Ended, then_do, spend}
use Rattle.plcx_meaning.specs.Tree.{Expression, Argument, Statement, Assign, Call, If, While, Case, Statements, no_statement, statement, Arms, no_arm, arm, PouText}
use Rattle.plcx_meaning.specs.Layout.{variables_of}
use Rattle.plcx_meaning.specs.Standard.{called}
use Rattle.plcx_meaning.specs.Functions.{Answer, Given, Faulty, Missing}
use Rattle.plcx_meaning.specs.Execute.{Referent, Temporary, Kept, Bound, Instance, Unknown, TextSetting, referent_of, TextState, Frame, fresh, with_value, with_truth, value_of, assign, Formal, Takes, Binds, NoFormal, formal_named, has_leaf, referent_in, store_argument, store_arguments, bind, all_bound, parts_named, type_of_instance, TextCalls, call_runs, turns, selects, statement_runs, statements_run, arms_run, list_runs, pou_runs, block_named, world_of, with_standard, blocks_run, program_runs}
use Rattle.plcx_meaning.proofs.Turns.{Lowers, lowers_end, lowers_stop, lowers_stuck, lowers_then, lowers_more, lowers_if, lowers_found, lowers_spend, spend_zero, spend_same, then_same}

abbrev pub left : TextState → ℕ
left g = g.left

abbrev pub CallLowers : TextCalls → Type 0
CallLowers call = (type : List ℕ) (site : Site) (g : TextState) → Lowers left g.left (call type site g)

lowers_value : {A L : Type 0} (n : ℕ) (a : Answer A) (g : TextState) (go : A → Outcome TextState L) → g.left ≤ n → ((x : A) → Lowers left n (go x)) → Lowers left n (with_value a g go)
lowers_value n (Given x) g go le h = h x
lowers_value n (Faulty fault) g go le h = lowers_stop left n _ g le
lowers_value n Missing g go le h = lowers_stuck left n

lowers_truth : {L : Type 0} (n : ℕ) (a : Answer Value) (g : TextState) (go : Bool → Outcome TextState L) → g.left ≤ n → ((b : Bool) → Lowers left n (go b)) → Lowers left n (with_truth a g go)
lowers_truth n a g go le h = lowers_value n a g _ le (λ v. lowers_if left n (same_ty v.ty ty.Bool) _ _ (h (is_true v.n)) (lowers_stuck left n))

-- a condition that is met, and one that is not
truth_same : {L : Type 0} (a : Answer Value) (g : TextState) (o p q : Outcome TextState L) → o ≡ p → with_truth a g (λ b. if b then o else q) ≡ with_truth a g (λ b. if b then p else q)
truth_same a g o p q e = ap (λ x. with_truth a g (λ b. if b then x else q)) e

module _ (test : TextState → Frame → Answer Value) (body : TextState → Frame → Outcome TextState Frame) (low : (g : TextState) (f : Frame) → Lowers left g.left (body g f)) where
  turns_lower : (n : ℕ) (g : TextState) (f : Frame) → Lowers left g.left (turns n test body g f)
  turns_lower zero g f = lowers_truth _ (test g f) g _ (le_refl _) (λ b. lowers_if left _ b _ _ (lowers_stop left _ OutOfTurns g (le_refl _)) (lowers_end left _ g f (le_refl _)))
  turns_lower (suc n) g f =
      lowers_truth _ (test g f) g _ (le_refl _) (λ b. lowers_if left _ b _ _
      (lowers_spend left g.left g.left g _ (le_refl _) (λ j h. lowers_then left _ (body (record g { left = j }) f) (turns n test body)
      (lowers_more left j g.left _ (omega arith) (low (record g { left = j }) f))
      (λ g' f' k. lowers_more left g'.left g.left _ k (turns_lower n g' f'))))
      (lowers_end left _ g f (le_refl _)))

  -- any two counts that are no less than the budget give one outcome
  turns_same : (m n : ℕ) (g : TextState) (f : Frame) → g.left ≤ m → g.left ≤ n → turns m test body g f ≡ turns n test body g f
  turns_same zero zero g f h k = refl
  turns_same zero (suc n) g f h k = truth_same (test g f) g _ _ (Ended g f) (sym (spend_zero left g.left g _ h))
  turns_same (suc m) zero g f h k = truth_same (test g f) g _ _ (Ended g f) (spend_zero left g.left g _ k)
  turns_same (suc m) (suc n) g f h k =
      truth_same (test g f) g _ _ (Ended g f)
      (spend_same left g.left g _ _ (λ j le.
      then_same left j (body (record g { left = j }) f) (turns m test body) (turns n test body) (low (record g { left = j }) f) (λ g' f' le'. turns_same m n g' f' (omega arith) (omega arith))))

  pub turns_law : (g : TextState) (f : Frame)
      → turns g.left test body g f ≡ with_truth (test g f) g (λ b. if b then spend g.left g (λ j. then_do (body (record g { left = j }) f) (λ g' f'. turns g'.left test body g' f')) else Ended g f)
  turns_law g f =
      turns_same g.left (suc g.left) g f (le_refl _) (omega arith)
      ∙ truth_same (test g f) g _ _ (Ended g f)
      (spend_same left g.left g _ _ (λ j le.
      then_same left j (body (record g { left = j }) f) (turns g.left test body) (λ g' f'. turns g'.left test body g' f') (low (record g { left = j }) f)
      (λ g' f' le'. turns_same g.left g'.left g' f' (omega arith) (le_refl _))))

assign_lower : (p : Referent) (x : List ℕ) (site : Site) (v : Value) (g : TextState) (f : Frame) → Lowers left g.left (assign p x site v g f)
assign_lower (Kept t) x site v g f = lowers_if left _ (same_ty v.ty t) _ _ (lowers_end left _ _ _ (le_refl _)) (lowers_stuck left _)
assign_lower (Bound t) x site v g f = lowers_if left _ (same_ty v.ty t) _ _ (lowers_end left _ _ _ (le_refl _)) (lowers_stuck left _)
assign_lower (Temporary t) x site v g f = lowers_if left _ (same_ty v.ty t) _ _ (lowers_end left _ _ _ (le_refl _)) (lowers_stuck left _)
assign_lower (Instance type) x site v g f = lowers_stuck left _
assign_lower Unknown x site v g f = lowers_stuck left _

argument_lower : (k : Formal) (a : Argument) (c : TextSetting) (p : Path) (old : TextState) (f : Frame) (g : TextState) (go : TextState → Outcome TextState Frame) → g.left ≡ old.left
    → ((h : TextState) → h.left ≡ old.left → Lowers left old.left (go h)) → Lowers left old.left (store_argument k a c p old f g go)
argument_lower (Takes t) a c p old f g go e h =
    lowers_value old.left (value_of a.value c old.store f) old _ (le_refl _) (λ v. lowers_if left _ (same_ty v.ty t) _ _ (h (record g { store = put g.store p v.n }) e) (lowers_stuck left _))
argument_lower (Binds t) a c p old f g go e h = lowers_if left _ (has_leaf (referent_in c a.value) t) _ _ (h g e) (lowers_stuck left _)
argument_lower NoFormal a c p old f g go e h = lowers_stuck left _

arguments_lower : (args : List Argument) (c : TextSetting) (i : List ℕ) (old : TextState) (f : Frame) (g : TextState) (go : TextState → Outcome TextState Frame) → g.left ≡ old.left
    → ((h : TextState) → h.left ≡ old.left → Lowers left old.left (go h)) → Lowers left old.left (store_arguments args c i old f g go)
arguments_lower [] c i old f g go e h = h g e
arguments_lower (a ∷ rest) c i old f g go e h =
    argument_lower (formal_named c i a.formal) a c (in_lower_case a.formal ∷ in_lower_case i ∷ c.site.path) old f g (λ k. store_arguments rest c i old f k go) e (λ k same. arguments_lower rest c i old f k go same h)

module _ (c : TextSetting) (call : TextCalls) (low : CallLowers call) where
  invoke_lower : (i : List ℕ) (args : List Argument) (g : TextState) (f : Frame) → Lowers left g.left (call_runs i args c call g f)
  invoke_lower i args g f =
      lowers_found left _ (type_of_instance (referent_of c i)) _ (λ type.
      lowers_if left _ (all_bound args (parts_named c i)) _ _
      (arguments_lower args c i g f g _ refl (λ h e.
      lowers_then left _ (call type (record { path = in_lower_case i ∷ c.site.path; bound = bind args c i }) h) _
      (lowers_more left h.left g.left _ (omega arith) (low type (record { path = in_lower_case i ∷ c.site.path; bound = bind args c i }) h))
      (λ g' u le. lowers_end left _ g' f le)))
      (lowers_stuck left _))

  mutual
    statement_lower : (s : Statement) (g : TextState) (f : Frame) → Lowers left g.left (statement_runs s c call g f)
    statement_lower (Assign x e) g f = lowers_value _ (value_of e c g.store f) g _ (le_refl _) (λ v. assign_lower (referent_of c x) x c.site v g f)
    statement_lower (Call i args) g f = invoke_lower i args g f
    statement_lower (If e ss) g f = lowers_truth _ (value_of e c g.store f) g _ (le_refl _) (λ b. lowers_if left _ b _ _ (statements_lower ss g f) (lowers_end left _ g f (le_refl _)))
    statement_lower (While e ss) g f = turns_lower _ (statements_run ss c call) (statements_lower ss) g.left g f
    statement_lower (Case e arms) g f = lowers_value _ (value_of e c g.store f) g _ (le_refl _) (λ v. lowers_if left _ (same_ty v.ty ty.Dint) _ _ (arms_lower arms v.n g f) (lowers_stuck left _))

    statements_lower : (ss : Statements) (g : TextState) (f : Frame) → Lowers left g.left (statements_run ss c call g f)
    statements_lower no_statement g f = lowers_end left _ g f (le_refl _)
    statements_lower (statement s ss) g f = lowers_then left _ (statement_runs s c call g f) _ (statement_lower s g f) (λ g' f' le. lowers_more left g'.left g.left _ le (statements_lower ss g' f'))

    arms_lower : (arms : Arms) (n : ℤ) (g : TextState) (f : Frame) → Lowers left g.left (arms_run arms c call n g f)
    arms_lower no_arm n g f = lowers_end left _ g f (le_refl _)
    arms_lower (arm label ss rest) n g f = lowers_if left _ (selects n label) _ _ (statements_lower ss g f) (arms_lower rest n g f)

  pub list_lower : (ss : List Statement) (g : TextState) (f : Frame) → Lowers left g.left (list_runs ss c call g f)
  list_lower [] g f = lowers_end left _ g f (le_refl _)
  list_lower (s ∷ ss) g f = lowers_then left _ (statement_runs s c call g f) _ (statement_lower s g f) (λ g' f' le. lowers_more left g'.left g.left _ le (list_lower ss g' f'))

pou_lower : (p : PouText) (unit : List PouText) (call : TextCalls) → CallLowers call → (site : Site) (g : TextState) → Lowers left g.left (pou_runs p (world_of unit) call site g)
pou_lower p unit call low site g =
    lowers_then left _ _ _ (list_lower (record { world = world_of unit; variables = variables_of p.blocks; site = site }) call low p.body g (fresh (variables_of p.blocks))) (λ h f le. lowers_end left _ h tt le)

standard_lower : (time : ℕ) (users : TextCalls) → CallLowers users → CallLowers (with_standard time users)
standard_lower time users low type site g = by_kind (kind_named type)
  where
    by_kind : (o : Option StdKind) → Lowers left g.left (elim o as (λ x. Outcome TextState (Unit {0})) [ Some k ↦ Ended (record g { store = called k time site.path g.store }) tt | None ↦ users type site g ])
    by_kind (Some k) = lowers_end left _ _ tt (le_refl _)
    by_kind None = low type site g

users_lower : (n time : ℕ) (unit : List PouText) → CallLowers (blocks_run n time unit)
users_lower zero time unit type site g = lowers_stuck left _
users_lower (suc n) time unit type site g = lowers_found left _ (block_named type unit) _ (λ p. pou_lower p unit _ (standard_lower time _ (users_lower n time unit)) site g)

-- the blocks of a unit, however deep they lie
pub blocks_lower : (n time : ℕ) (unit : List PouText) → CallLowers (with_standard time (blocks_run n time unit))
blocks_lower n time unit = standard_lower time (blocks_run n time unit) (users_lower n time unit)

pub program_lower : (time : ℕ) (unit : List PouText) (p : PouText) (g : TextState) → Lowers left g.left (program_runs time unit p g)
program_lower time unit p g = pou_lower p unit _ (blocks_lower 16 time unit) _ g

-- a WHILE: where its condition is TRUE and no turn is left the scan is out of turns, else one turn less is left, the body runs, and the WHILE again
pub while_law : (n time : ℕ) (unit : List PouText) (c : TextSetting) (e : Expression) (ss : Statements) (g : TextState) (f : Frame)
    → statement_runs (While e ss) c (with_standard time (blocks_run n time unit)) g f
    ≡ with_truth (value_of e c g.store f) g (λ b.
    if b
    then spend g.left g (λ j. then_do (statements_run ss c (with_standard time (blocks_run n time unit)) (record g { left = j }) f) (statement_runs (While e ss) c (with_standard time (blocks_run n time unit))))
    else Ended g f)
while_law n time unit c e ss g f =
    turns_law (λ h l. value_of e c h.store l) (statements_run ss c (with_standard time (blocks_run n time unit))) (statements_lower c (with_standard time (blocks_run n time unit)) (blocks_lower n time unit) ss) g f
