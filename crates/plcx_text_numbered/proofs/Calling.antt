-- Calls of instances: the arguments are evaluated, then stored, and then the block is run.
use Rattle.std.proofs.Common.{◌≡◌, ℕ, ◌+◌, ◌<◌, ◌≤◌, pos, true, List, [], ◌∷◌, ◌++◌, length, set, map, Some, refl, sym, ap, ◌∙◌, arith, ◌⊎◌, inl, inr}
use Rattle.std.specs.Prelude.{slice_get, option_map, if◌then◌else◌}
use Rattle.std.proofs.lemmas.Grind.{get_or-set_at}
use Rattle.std.proofs.lemmas.Option.{slice_get-map, get_or_from_slice_get}
use Rattle.plcx_types.specs.Name.{in_lower_case}
use Rattle.plcx_types.specs.TypeName.{same_ty}
use Rattle.plcx_types.specs.Value.{Value}
use Rattle.plcx_types.proofs.TypeTable.{same_refl}
use Rattle.plcx_std.specs.declared.kind.StdKind.{StdKind}
use Rattle.plcx_std.specs.Kind.{kind_named}
use Rattle.plcx_std.specs.Pins.{Pin, pins}
use Rattle.plcx_meaning.specs.Base.{Path, Memory, put, Outcome, Ended, Stuck, then_do, found, Site, top}
use Rattle.plcx_meaning.specs.Tree.{Expression, Number, Name, Member, Apply, Not, Binary, Argument}
use Rattle.plcx_meaning.specs.Layout.{parts_of}
use Rattle.plcx_meaning.specs.Standard.{called as called_at}
use Rattle.plcx_meaning.specs.Evaluate.{Heard, DiagramState}
use Rattle.plcx_meaning.specs.Typed.{variable_in}
use Rattle.plcx_meaning.specs.Execute.{TextState, Frame, Formal, Takes, Binds, NoFormal, has_leaf, referent_in, store_argument, store_arguments, bind, all_bound, type_of_instance, TextCalls, value_of, call_runs}
use Rattle.plcx_steps.specs.declared.program.Operand.{Operand}
use Rattle.plcx_steps.specs.declared.program.Operand.TheVariants.{Leaf, InOut}
use Rattle.plcx_steps.specs.declared.program.Action.TheVariants as action
use Rattle.plcx_steps.specs.declared.program.Instance.{Instance as Standing}
use Rattle.plcx_steps.specs.Numbered.{Numbered, Here, no_value, value_at, number_at, source_at, leaf_at, bound_at, standard_at}
use Rattle.plcx_numbered.specs.Agreeing.{AreApart, Shape, plain_cell}
use Rattle.plcx_numbered.proofs.Blocks.{standard_agree}
use Rattle.plcx_text_steps.specs.declared.text.Line.{Line}
use Rattle.plcx_text_steps.specs.declared.text.Line.TheVariants as line
use Rattle.plcx_text_steps.specs.Numbered.{Numbers, Sections, cells_of, callee, entered, lines_do, section_does}
use Rattle.plcx_text_numbered.specs.Agreeing.{Lies, SameInOuts, Agree, Alike, IsBelow, Nothing, Reads}
use Rattle.plcx_text_numbered.specs.Prepared.{wires_of}
use Rattle.plcx_text_numbered.specs.Setting.{setting}
use Rattle.plcx_text_numbered.specs.Statements.{Around, formal_of, taken_wires, IsTaken, AreTaken, store_one, store_lines, IsBlock, IsBoundTo, IsUser, IsCall}
use Rattle.plcx_text_numbered.proofs.Runs.{lines_append, below_refl, below_then, below_set}
use Rattle.plcx_text_numbered.proofs.Alikes.{both_end, alike_then, alike_as, alike_from, alike_value, then_then, last_line}
use Rattle.plcx_text_numbered.proofs.Assigning.{agree_set, here, InFrame, in_frame, value_runs}

-- ---- standard blocks

abbrev no_watch : Unit {0} → Heard → Unit {0}
no_watch u h = tt

-- a text's state as one of a diagram without memories
abbrev drawn : TextState → DiagramState
drawn g = record { store = g.store; memories = λ p m. pos 0; left = g.left; heard = [] }

abbrev numbers_drawn : Numbers → Numbered (Unit {0})
numbers_drawn n = record { values = n.values; memories = []; left = n.left; watch = tt }

abbrev shape : List Path → Shape
shape whole = record { paths = whole; cells = [] }

pub standard_alike : (whole : List Path) → AreApart whole → (k : StdKind) (time : ℕ) (p : Path) (leaf : ℕ) → ((i : ℕ) (q : Pin) → slice_get (pins k) i ≡ Some q → slice_get whole (leaf + i) ≡ Some (in_lower_case q.name ∷ p)) → (g : TextState) (n : Numbers)
    → Agree whole g n → Agree whole (record g { store = called_at k time p g.store }) (record n { values = standard_at k (pos time) leaf n.values })
standard_alike whole apart k time p leaf there g n a =
    let none : (i : ℕ) (x : Path × Memory) → slice_get [] i ≡ Some x → ⊥ = λ i x h. cc in
    let r = standard_agree (shape whole) (record { paths = apart; cells = record { apart = λ i j x h m. absurd (none i x h) } }) no_watch tt k time p leaf there (drawn g) (numbers_drawn n)
    (record { store = a.store; memories = record { long = omega arith; each = λ i x h. absurd (none i (plain_cell x) h) }; left = a.left; heard = refl }) in
    record { store = r.store; left = a.left }

-- where the block of an instance is run
abbrev pub inner_site : Site → List ℕ → (List ℕ → Path) → Site
inner_site site i bound = record { path = in_lower_case i ∷ site.path; bound = bound }

-- a standard block takes one step
abbrev pub StepsStandard : ℕ → TextCalls → Type 0
StepsStandard time call = (type : List ℕ) (k : StdKind) (site : Site) (g : TextState) → kind_named type ≡ Some k → call type site g ≡ Ended (record g { store = called_at k time site.path g.store }) tt

module _ (whole : List Path) (apart : AreApart whole) (c : Around) (temporaries_apart : AreApart c.own.plan.temporaries) (site : Site) (k : ℕ) (time : ℕ) (at : Standing) (in_outs : List ℕ)
    (lies : Lies whole c.own.plan.paths site.path at.leaves) (same_in_outs : SameInOuts whole c.own.plan.in_outs site.bound in_outs) where
  abbrev own_frame : Frame → List Value → Type 0
  own_frame = InFrame whole apart c temporaries_apart site k time at in_outs lies same_in_outs

  abbrev own_here : Here
  own_here = here whole apart c temporaries_apart site k time at in_outs lies same_in_outs

  -- the state with the value of an input stored, which is in its wire
  abbrev stored_one : Formal → List ℕ → Argument → ℕ → List Value → TextState → TextState
  stored_one (Takes t) i a wire vs g = record g { store = put g.store (in_lower_case a.formal ∷ in_lower_case i ∷ site.path) (number_at vs (wire + wires_of a.value)) }
  stored_one (Binds t) i a wire vs g = g
  stored_one NoFormal i a wire vs g = g

  abbrev stored : List ℕ → List Argument → ℕ → List Value → TextState → TextState
  stored i [] wire vs g = g
  stored i (a ∷ rest) wire vs g = stored i rest (wire + taken_wires (formal_of c.num i a) a) vs (stored_one (formal_of c.num i a) i a wire vs g)

  -- later wires don't matter
  one_same : (fm : Formal) (i : List ℕ) (a : Argument) (wire : ℕ) (vs us : List Value) (g : TextState) → IsBelow (wire + taken_wires fm a) vs us → stored_one fm i a wire us g ≡ stored_one fm i a wire vs g
  one_same (Takes t) i a wire vs us g b =
      let low : wire + wires_of a.value < wire + (wires_of a.value + 1) = omega arith in
      ap (λ (v : Value). record g { store = put g.store (in_lower_case a.formal ∷ in_lower_case i ∷ site.path) v.n }) (b.same (wire + wires_of a.value) low)
  one_same (Binds t) i a wire vs us g b = refl
  one_same NoFormal i a wire vs us g b = refl

  -- one argument: its value is taken in the state before the call
  one_alike : (sections : Sections) (fm : Formal) (i : List ℕ) (a : Argument) (wire : ℕ) (xs ys : List Line) → IsTaken c i wire a fm xs → (old g : TextState) (f : Frame) (n : Numbers) (ws : List Value) → Agree whole old n → own_frame f ws
      → (go : TextState → Outcome TextState Frame) (next : Numbers → List Value → Outcome Numbers (List Value))
      → ((vs : List Value) (h : TextState) → IsBelow wire ws vs → h ≡ stored_one fm i a wire vs g → Alike whole own_frame (go h) (then_do (lines_do sections c.text own_here ys n vs) next))
      → Alike whole own_frame (store_argument fm a (setting c.num.scope site) (in_lower_case a.formal ∷ in_lower_case i ∷ site.path) old f g go) (then_do (lines_do sections c.text own_here (xs ++ ys) n ws) next)
  one_alike sections (Takes t) i a wire xs ys h old g f n ws agrees fr go next rest =
      let w = wire + wires_of a.value in
      let p = in_lower_case a.formal ∷ in_lower_case i ∷ site.path in
      let fix = line.Act (action.Fix h.source w) ∷ [] in
      let room = h.room in
      let wide = fr.width_is in
      alike_as _ _
      (ap (λ ls. then_do (lines_do sections c.text own_here (ls ++ ys) n ws) next) h.are_lines
      ∙ ap (λ q. then_do q next) (lines_append sections c.text own_here (h.before ++ fix) ys n ws)
      ∙ then_then (lines_do sections c.text own_here (h.before ++ fix) n ws) (lines_do sections c.text own_here ys) next
      ∙ ap (λ q. then_do q (λ m vs. then_do (lines_do sections c.text own_here ys m vs) next)) (lines_append sections c.text own_here h.before fix n ws)
      ∙ then_then (lines_do sections c.text own_here h.before n ws) (lines_do sections c.text own_here fix) (λ m vs. then_do (lines_do sections c.text own_here ys m vs) next))
      (alike_value old n (Reads own_here n wire ws t h.source) (value_of a.value (setting c.num.scope site) old.store f) (lines_do sections c.text own_here h.before n ws)
      (λ v. if same_ty v.ty t then go (record g { store = put g.store p v.n }) else Stuck) _ agrees
      (value_runs whole apart c temporaries_apart site k time at in_outs lies same_in_outs sections old f n ws agrees fr wire a.value t h.before h.source h.value)
      (λ v vs r.
      let count = r.below.count in
      let x = source_at own_here (cells_of n vs) h.source in
      let held : number_at (set vs w x) w ≡ v.n = ap (λ (u : Value). u.n) (get_or-set_at vs w w x no_value refl (omega arith)) ∙ sym r.number in
      alike_from _ _ (ap (λ b. if b then go (record g { store = put g.store p v.n }) else Stuck) (ap (λ s. same_ty s t) r.typed ∙ same_refl t))
      (rest (set vs w x) (record g { store = put g.store p v.n }) (below_then wire wire ws vs (set vs w x) (omega arith) r.below (below_set wire w vs x (omega arith)))
      (ap (λ m. record g { store = put g.store p m }) (sym held)))))
  one_alike sections (Binds t) i a wire xs ys h old g f n ws agrees fr go next rest =
      alike_from _ _ (ap (λ b. if b then go g else Stuck) (has_same a.value h.0))
      (alike_as _ _ (ap (λ ls. then_do (lines_do sections c.text own_here (ls ++ ys) n ws) next) h.1) (rest ws g (below_refl wire ws) refl))
    where
      has_same : (e : Expression) → has_leaf (referent_in (setting c.num.scope top) e) t ≡ true → has_leaf (referent_in (setting c.num.scope site) e) t ≡ true
      has_same (Name x) e = e
      has_same (Number v) e = e
      has_same (Member j x) e = e
      has_same (Apply x es) e = e
      has_same (Not p) e = e
      has_same (Binary op p q) e = e
  one_alike sections NoFormal i a wire xs ys h old g f n ws agrees fr go next rest = absurd h

  -- all arguments, one after another
  taken_alike : (sections : Sections) (i : List ℕ) (args : List Argument) (wire : ℕ) (lines : List Line) → AreTaken c i wire args lines → length c.own.plan.temporaries ≤ wire → (old g : TextState) (f : Frame) (n : Numbers) (ws : List Value) → Agree whole old n → own_frame f ws
      → (go : TextState → Outcome TextState Frame) (next : Numbers → List Value → Outcome Numbers (List Value)) → ((vs : List Value) → IsBelow wire ws vs → Alike whole own_frame (go (stored i args wire vs g)) (next n vs))
      → Alike whole own_frame (store_arguments args (setting c.num.scope site) i old f g go) (then_do (lines_do sections c.text own_here lines n ws) next)
  taken_alike sections i [] wire lines h le old g f n ws agrees fr go next rest = alike_as _ _ (ap (λ ls. then_do (lines_do sections c.text own_here ls n ws) next) h) (rest ws (below_refl wire ws))
  taken_alike sections i (a ∷ more) wire lines h le old g f n ws agrees fr go next rest =
      let fm = formal_of c.num i a in
      let later = wire + taken_wires fm a in
      alike_as _ _ (ap (λ ls. then_do (lines_do sections c.text own_here ls n ws) next) h.2)
      (one_alike sections fm i a wire h.0 h.1 h.3 old g f n ws agrees fr (λ g'. store_arguments more (setting c.num.scope site) i old f g' go) next
      (λ vs g' below is.
      taken_alike sections i more later h.1 h.4 (omega arith) old g' f n vs agrees (in_frame whole apart c temporaries_apart site k time at in_outs lies same_in_outs f wire ws vs le below fr) go next
      (λ us b.
      alike_from _ _ (ap (λ s. go (stored i more later us s)) (is ∙ sym (one_same fm i a wire vs us g b)))
      (rest us (below_then wire later ws vs us (omega arith) below b)))))

  -- the values are stored
  pub record Written (sections : Sections) (g : TextState) (n : Numbers) (vs : List Value) (lines more : List Line) : Type 0 where
    pub new : Numbers
    pub does : lines_do sections c.text own_here (lines ++ more) n vs ≡ lines_do sections c.text own_here more new vs
    pub agrees : Agree whole g new

  one_written : (sections : Sections) (fm : Formal) (i : List ℕ) (a : Argument) (wire : ℕ) (xs : List Line) → IsTaken c i wire a fm xs → (g : TextState) (n : Numbers) (vs : List Value) (more : List Line) → Agree whole g n
      → Written sections (stored_one fm i a wire vs g) n vs (store_one fm c.num i wire a) more
  one_written sections (Takes t) i a wire xs h g n vs more agrees =
      let w = wire + wires_of a.value in
      let leaf = at.leaves + c.num.inner i a.formal in
      record {
        new = record n { values = set n.values leaf (value_at vs w) };
        does = refl;
        agrees = agree_set whole apart g n (in_lower_case a.formal ∷ in_lower_case i ∷ site.path) leaf (number_at vs w) (value_at vs w) (lies.paths (c.num.inner i a.formal) (in_lower_case a.formal ∷ in_lower_case i ∷ []) h.leaf) refl agrees;
      }
  one_written sections (Binds t) i a wire xs h g n vs more agrees = record { new = n; does = refl; agrees = agrees }
  one_written sections NoFormal i a wire xs h g n vs more agrees = absurd h

  all_written : (sections : Sections) (i : List ℕ) (args : List Argument) (wire : ℕ) (lines : List Line) → AreTaken c i wire args lines → (g : TextState) (n : Numbers) (vs : List Value) (more : List Line) → Agree whole g n
      → Written sections (stored i args wire vs g) n vs (store_lines c.num i wire args) more
  all_written sections i [] wire lines h g n vs more agrees = record { new = n; does = refl; agrees = agrees }
  all_written sections i (a ∷ rest) wire lines h g n vs more agrees =
      let fm = formal_of c.num i a in
      let later = wire + taken_wires fm a in
      let A = one_written sections fm i a wire h.0 h.3 g n vs (store_lines c.num i later rest ++ more) agrees in
      let B = all_written sections i rest later h.1 h.4 (stored_one fm i a wire vs g) A.new vs more A.agrees in
      record { new = B.new; does = ap (λ ls. lines_do sections c.text own_here ls n vs) (append_lines (store_one fm c.num i wire a) (store_lines c.num i later rest) more) ∙ A.does ∙ B.does; agrees = B.agrees }
    where
      append_lines : (xs ys zs : List Line) → (xs ++ ys) ++ zs ≡ xs ++ (ys ++ zs)
      append_lines [] ys zs = refl
      append_lines (x ∷ xs) ys zs = ap (λ ls. x ∷ ls) (append_lines xs ys zs)

  -- ---- in-outs

  bound_leaf : (o : Operand) (p : Site → Path) → IsBoundTo c.own.plan o p → slice_get whole (leaf_at at in_outs o) ≡ Some (p site)
  bound_leaf (Leaf offset) p h = lies.paths offset (h.0 ∷ []) h.1 ∙ ap Some (sym (h.2 site))
  bound_leaf (InOut j) p h = same_in_outs.each j h.0 h.1 ∙ ap Some (sym (h.2 site))

  pub bound_same : (below : ℕ) (i : List ℕ) (args : List Argument) (type : List ℕ) (lines : List Line) (u : IsUser c below i args type lines)
      → SameInOuts whole u.plan.plan.in_outs (bind args (setting c.num.scope site) i) (bound_at own_here u.first (length u.operands))
  bound_same below i args type lines u = record {
    each = λ j key there.
        let b = u.bound j key there in
        let at_place : slice_get (bound_at own_here u.first (length u.operands)) j ≡ Some (leaf_at at in_outs b.0) =
        ap (λ os. slice_get (map (leaf_at at in_outs) os) j) u.has ∙ slice_get-map (leaf_at at in_outs) u.operands j ∙ ap (option_map (leaf_at at in_outs)) b.1 in
        ap (slice_get whole) (get_or_from_slice_get (bound_at own_here u.first (length u.operands)) j (leaf_at at in_outs b.0) 0 at_place) ∙ bound_leaf b.0 (λ s. bind args (setting c.num.scope s) i key) b.2;
  }

  -- ---- calls

  -- how the function blocks of instances are run on both sides
  abbrev pub CallsAlike : TextCalls → Type 0
  CallsAlike call =
      (below d : ℕ) → below ≤ d → (i : List ℕ) (args : List Argument) (type : List ℕ) (lines : List Line) (u : IsUser c below i args type lines) (g : TextState) (n : Numbers) → Agree whole g n
      → Alike whole (Nothing {K = Unit {0}}) (call type (inner_site site i (bind args (setting c.num.scope site) i)) g) (entered (section_does d c.text) c.text (callee own_here u.number u.leaves u.first (length u.operands)) n)

  block_alike : (call : TextCalls) → StepsStandard time call → CallsAlike call → (below d : ℕ) → below ≤ d → (i : List ℕ) (args : List Argument) (type : List ℕ) (lines : List Line) → IsBlock c i type lines ⊎ IsUser c below i args type lines
      → (g : TextState) (f : Frame) (n : Numbers) (ws : List Value) → Agree whole g n → own_frame f ws
      → Alike whole own_frame (then_do (call type (inner_site site i (bind args (setting c.num.scope site) i)) g) (λ h u. Ended h f)) (lines_do (section_does d c.text) c.text own_here lines n ws)
  block_alike call standard calls below d le i args type lines (inl b) g f n ws a fr =
      let p = in_lower_case i ∷ site.path in
      alike_from _ _ (ap (λ o. then_do o (λ h u. Ended h f)) (standard type b.kind (inner_site site i (bind args (setting c.num.scope site) i)) g b.named))
      (alike_as _ _ (ap (λ ls. lines_do (section_does d c.text) c.text own_here ls n ws) b.are_lines)
      (both_end (standard_alike whole apart b.kind time p (at.leaves + b.first)
      (λ j q there. ap (slice_get whole) (let s : at.leaves + b.first + j ≡ at.leaves + (b.first + j) = omega arith in s) ∙ lies.paths (b.first + j) (in_lower_case q.name ∷ in_lower_case i ∷ []) (b.leaves j q there)) g n a) fr))
  block_alike call standard calls below d le i args type lines (inr u) g f n ws a fr =
      alike_as _ _ (ap (λ ls. lines_do (section_does d c.text) c.text own_here ls n ws) u.are_lines ∙ last_line (section_does d c.text) c.text own_here _)
      (alike_then _ _ _ _ (calls below d le i args type lines u g n a) (λ h l m l' b r. both_end b fr))

  pub call_alike : (call : TextCalls) → StepsStandard time call → CallsAlike call → (below d : ℕ) → below ≤ d → (i : List ℕ) (args : List Argument) (lines : List Line) → IsCall c below i args lines
      → (g : TextState) (f : Frame) (n : Numbers) (ws : List Value) → Agree whole g n → own_frame f ws
      → Alike whole own_frame (call_runs i args (setting c.num.scope site) call g f) (lines_do (section_does d c.text) c.text own_here lines n ws)
  call_alike call standard calls below d le i args lines h g f n ws a fr =
      let sections = section_does d c.text in
      let go : TextState → Outcome TextState Frame = λ s. then_do (call h.type (inner_site site i (bind args (setting c.num.scope site) i)) s) (λ t u. Ended t f) in
      let more = store_lines c.num i h.wire args ++ h.called in
      alike_from _ _
      (ap (λ r. found (type_of_instance r) (λ type. if all_bound args (parts_of c.num.scope.world (variable_in c.num.scope i)) then store_arguments args (setting c.num.scope site) i g f g (λ s. then_do (call type (inner_site site i (bind args (setting c.num.scope site) i)) s) (λ t u. Ended t f)) else Stuck)) h.instance
      ∙ ap (λ b. if b then store_arguments args (setting c.num.scope site) i g f g go else Stuck) h.all)
      (alike_as _ _ (ap (λ ls. lines_do sections c.text own_here ls n ws) h.are_lines ∙ lines_append sections c.text own_here h.taken more n ws)
      (taken_alike sections i args h.wire h.taken h.are_taken h.free g g f n ws a fr go (lines_do sections c.text own_here more)
      (λ vs b.
      let W = all_written sections i args h.wire h.taken h.are_taken g n vs h.called a in
      alike_as _ _ W.does
      (block_alike call standard calls below d le i args h.type h.called h.callee (stored i args h.wire vs g) f W.new vs W.agrees (in_frame whole apart c temporaries_apart site k time at in_outs lies same_in_outs f h.wire ws vs h.free b fr)))))
