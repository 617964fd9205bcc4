-- The elements that are no blocks: the text does what the diagram does.
use Rattle.std.proofs.Common.{◌≡◌, ℕ, ℤ, pos, ◌<◌, ◌^◌, Bool, true, false, List, [], ◌∷◌, refl, ap, ◌∙◌, subst, if◌then◌else◌}
use Rattle.plcx_types.specs.declared.ty.Ty.{Ty}
use Rattle.plcx_types.specs.declared.ty.Ty.TheVariants as ty
use Rattle.plcx_types.specs.Name.{in_lower_case}
use Rattle.plcx_funcs.specs.Applied.{value}
use Rattle.plcx_meaning.specs.Base.{put, is_true, and_of, not_of, AtEdge, Ended, then_do}
use Rattle.plcx_meaning.specs.Tree.{Expression, Not, Assign, statements}
use Rattle.plcx_meaning.specs.Layout.{Variable}
use Rattle.plcx_meaning.specs.Functions.{Given}
use Rattle.plcx_meaning.specs.Diagram.{Storing, Stored, Inverted, Set, Reset, Contacting, Open, Closed, RisingContact, FallingContact, Coiling, By, RisingCoil, FallingCoil, Operand, Port, port}
use Rattle.plcx_meaning.specs.Evaluate.{DiagramState, Wires, fix, set_leaf, leaf_named, operand_leaf, store_by, contact_value, contact_does, coil_does}
use Rattle.plcx_meaning.specs.Execute.{Temporary, Kept, TextSetting, referent_of, TextState, Frame, hold, value_of, TextCalls, statements_run, list_runs}
use Rattle.plcx_meaning.specs.Templates.{wire_name, memory_name, wire, memory, truth, both, store_text, contact_text, contact_edge, coil_text, operand_text}
use Rattle.plcx_meaning.specs.Same.{Agree, IsDeclared}
use Rattle.plcx_meaning.proofs.Alike.{Alike, both_end, alike_as}
use Rattle.plcx_meaning.proofs.Asked.{VariableAsked, OperandAsked, StoringAsked, SameWires}
use Rattle.plcx_meaning.proofs.Agree.{agree_set, agree_memory, wires_fix}
use Rattle.plcx_meaning.proofs.Names.{bytes_self}
use Rattle.plcx_meaning.proofs.FunctionValues.{and_known, not_known}
use Rattle.plcx_meaning.proofs.Links.{assign_temporary, assign_variable, assign_memory, negated_known, wire_known, memory_known, operand_known}
use Rattle.plcx_meaning.proofs.BodiesSteps.{then_ended}

abbrev pub contacts_edge : Contacting → Bool
contacts_edge Open = false
contacts_edge Closed = false
contacts_edge RisingContact = true
contacts_edge FallingContact = true

abbrev pub coils_edge : Coiling → Bool
coils_edge (By how) = false
coils_edge RisingCoil = true
coils_edge FallingCoil = true

-- a temporary that was just assigned
pub held : (f : Frame) (x : List ℕ) (n : ℤ) → hold f x n (in_lower_case x) ≡ n
held f x n = ap (λ b. if b then n else f (in_lower_case x)) (bytes_self (in_lower_case x))

module _ (c : TextSetting) (vs : List Variable) (call : TextCalls) (site : IsDeclared c.site) where
  -- a wire gets a value that is known
  pub fix_alike : (id : ℕ) → id < 2 ^ 64 → (o : Port) (e : Expression) (n : ℤ) (done : List (ℕ × Port)) (d : DiagramState) (ws : Wires) (g : TextState) (f : Frame)
      → referent_of c (wire_name id o.pin) ≡ Temporary o.ty → Agree d g → SameWires done ws f → value_of e c g.store f ≡ Given (value o.ty n)
      → Alike (SameWires ((id, o) ∷ done)) (Ended d (fix ws id o.pin n)) (list_runs (Assign (wire_name id o.pin) e ∷ []) c call g f)
  fix_alike id small o e n done d ws g f place a same known =
      alike_as _ _ (then_ended _ ∙ assign_temporary c call g f (wire_name id o.pin) e o.ty n place known) (both_end a (wires_fix id small o n done ws f same))

  -- a leaf is set or reset where the value is TRUE
  set_alike : (b : Bool) (v : Bool) (n : ℤ) (x : List ℕ) (done : List (ℕ × Port)) (d : DiagramState) (ws : Wires) (g : TextState) (f : Frame)
      → value_of (truth v) c g.store f ≡ Given (value ty.Bool n) → VariableAsked c vs x ty.Bool → Agree d g → SameWires done ws f
      → Alike (SameWires done) (Ended (if b then set_leaf d (leaf_named vs c.site x) n else d) ws) (if b then statements_run (statements (Assign x (truth v) ∷ [])) c call g f else Ended g f)
  set_alike true v n x done d ws g f known asked a same =
      alike_as _ _ (then_ended _ ∙ assign_variable c vs call g f x (truth v) ty.Bool n asked known) (both_end (agree_set d g (leaf_named vs c.site x) n asked.declared a) same)
  set_alike false v n x done d ws g f known asked a same = both_end a same

  pub store_alike : (how : Storing) (x : List ℕ) (t : Ty) (e : Expression) (n : ℤ) (done : List (ℕ × Port)) (d : DiagramState) (ws : Wires) (g : TextState) (f : Frame)
      → VariableAsked c vs x t → StoringAsked how t → Agree d g → SameWires done ws f → value_of e c g.store f ≡ Given (value t n)
      → Alike (SameWires done) (Ended (store_by how (leaf_named vs c.site x) n d) ws) (list_runs (store_text how x e ∷ []) c call g f)
  store_alike Stored x t e n done d ws g f asked suits a same known =
      alike_as _ _ (then_ended _ ∙ assign_variable c vs call g f x e t n asked known) (both_end (agree_set d g (leaf_named vs c.site x) n asked.declared a) same)
  store_alike Inverted x t e n done d ws g f asked suits a same known =
      let other = negated_known c g.store f true e t n (λ _. suits) known in
      alike_as _ _ (then_ended _ ∙ assign_variable c vs call g f x (Not e) t (not_of n) asked other) (both_end (agree_set d g (leaf_named vs c.site x) (not_of n) asked.declared a) same)
  store_alike Set x t e n done d ws g f asked suits a same known =
      let is : value_of e c g.store f ≡ Given (value ty.Bool n) = known ∙ ap (λ u. Given (value u n)) suits in
      alike_as _ _ (then_ended _ ∙ rw (is)) (set_alike (is_true n) true (pos 1) x done d ws g f refl (subst (λ u. VariableAsked c vs x u) suits asked) a same)
  store_alike Reset x t e n done d ws g f asked suits a same known =
      let is : value_of e c g.store f ≡ Given (value ty.Bool n) = known ∙ ap (λ u. Given (value u n)) suits in
      alike_as _ _ (then_ended _ ∙ rw (is)) (set_alike (is_true n) false (pos 0) x done d ws g f refl (subst (λ u. VariableAsked c vs x u) suits asked) a same)

  contact_known : (how : Contacting) (id : ℕ) (l v : Expression) (n m : ℤ) (d : DiagramState) (g : TextState) (f : Frame) → Agree d g
      → (contacts_edge how ≡ true → referent_of c (memory_name (AtEdge id)) ≡ Kept ty.Bool)
      → value_of l c g.store f ≡ Given (value ty.Bool n) → value_of v c g.store f ≡ Given (value ty.Bool m)
      → value_of (contact_text how l v (memory (AtEdge id))) c g.store f ≡ Given (value ty.Bool (contact_value how n m (d.memories c.site.path (AtEdge id))))
  contact_known Open id l v n m d g f a place kl kv = and_known c g.store f l v n m kl kv
  contact_known Closed id l v n m d g f a place kl kv = and_known c g.store f l (Not v) n (not_of m) kl (not_known c g.store f v m kv)
  contact_known RisingContact id l v n m d g f a place kl kv =
      let edge = memory_known c site d g f (AtEdge id) ty.Bool a (place refl) in
      and_known c g.store f (both l v) (Not (memory (AtEdge id))) (and_of n m) (not_of (d.memories c.site.path (AtEdge id))) (and_known c g.store f l v n m kl kv) (not_known c g.store f (memory (AtEdge id)) _ edge)
  contact_known FallingContact id l v n m d g f a place kl kv =
      let edge = memory_known c site d g f (AtEdge id) ty.Bool a (place refl) in
      and_known c g.store f (both l (Not v)) (memory (AtEdge id)) (and_of n (not_of m)) (d.memories c.site.path (AtEdge id)) (and_known c g.store f l (Not v) n (not_of m) kl (not_known c g.store f v m kv)) edge

  -- an edge is remembered, in the frame behind the wire
  contact_edge_alike : (how : Contacting) (id : ℕ) → id < 2 ^ 64 → (v : Expression) (m : ℤ) (done : List (ℕ × Port)) (d : DiagramState) (ws : Wires) (g : TextState) (f : Frame) → Agree d g → SameWires done ws f
      → (contacts_edge how ≡ true → referent_of c (memory_name (AtEdge id)) ≡ Kept ty.Bool) → value_of v c g.store f ≡ Given (value ty.Bool m)
      → Alike (SameWires done) (Ended (contact_does how c.site.path id m d) ws) (list_runs (contact_edge how (AtEdge id) v) c call g f)
  contact_edge_alike Open id small v m done d ws g f a same place known = both_end a same
  contact_edge_alike Closed id small v m done d ws g f a same place known = both_end a same
  contact_edge_alike RisingContact id small v m done d ws g f a same place known =
      alike_as _ _ (then_ended _ ∙ assign_memory c call g f (AtEdge id) v ty.Bool m (place refl) known) (both_end (agree_memory d g c.site.path (AtEdge id) m small a) same)
  contact_edge_alike FallingContact id small v m done d ws g f a same place known =
      alike_as _ _ (then_ended _ ∙ assign_memory c call g f (AtEdge id) v ty.Bool m (place refl) known) (both_end (agree_memory d g c.site.path (AtEdge id) m small a) same)

  pub contact_alike : (how : Contacting) (id : ℕ) → id < 2 ^ 64 → (operand : Operand) (l : Expression) (n : ℤ) (done : List (ℕ × Port)) (d : DiagramState) (ws : Wires) (g : TextState) (f : Frame)
      → referent_of c (wire_name id []) ≡ Temporary ty.Bool → (contacts_edge how ≡ true → referent_of c (memory_name (AtEdge id)) ≡ Kept ty.Bool) → OperandAsked c vs operand ty.Bool
      → Agree d g → SameWires done ws f → value_of l c g.store f ≡ Given (value ty.Bool n)
      → Alike (SameWires ((id, port [] ty.Bool) ∷ done))
      (Ended (contact_does how c.site.path id (d.store (operand_leaf vs c.site operand)) d) (fix ws id [] (contact_value how n (d.store (operand_leaf vs c.site operand)) (d.memories c.site.path (AtEdge id)))))
      (list_runs (Assign (wire_name id []) (contact_text how l (operand_text operand) (memory (AtEdge id))) ∷ contact_edge how (AtEdge id) (operand_text operand)) c call g f)
  contact_alike how id small operand l n done d ws g f wire_at edge_at asked a same known =
      let m = d.store (operand_leaf vs c.site operand) in
      let w = contact_value how n m (d.memories c.site.path (AtEdge id)) in
      let first = assign_temporary c call g f (wire_name id []) (contact_text how l (operand_text operand) (memory (AtEdge id))) ty.Bool w wire_at
      (contact_known how id l (operand_text operand) n m d g f a edge_at known (operand_known c vs d g f operand ty.Bool a asked)) in
      alike_as _ _ (ap (λ o. then_do o (list_runs (contact_edge how (AtEdge id) (operand_text operand)) c call)) first)
      (contact_edge_alike how id small (operand_text operand) m ((id, port [] ty.Bool) ∷ done) d (fix ws id [] w) g (hold f (wire_name id []) w) a (wires_fix id small (port [] ty.Bool) w done ws f same) edge_at
      (operand_known c vs d g (hold f (wire_name id []) w) operand ty.Bool a asked))

  -- what a coil does behind its wire, whose value is n
  coil_behind : (how : Coiling) (x : List ℕ) (id : ℕ) → id < 2 ^ 64 → (n : ℤ) (done : List (ℕ × Port)) (d : DiagramState) (ws : Wires) (g : TextState) (f : Frame)
      → (coils_edge how ≡ true → referent_of c (memory_name (AtEdge id)) ≡ Kept ty.Bool) → VariableAsked c vs x ty.Bool → Agree d g → SameWires done ws f
      → ((h : TextState) → value_of (wire id []) c h.store f ≡ Given (value ty.Bool n))
      → Alike (SameWires done) (Ended (coil_does how (leaf_named vs c.site x) c.site.path id n d) ws) (list_runs (coil_text how x (AtEdge id) (wire id [])) c call g f)
  coil_behind (By Stored) x id small n done d ws g f edge_at asked a same known = store_alike Stored x ty.Bool (wire id []) n done d ws g f asked tt a same (known g)
  coil_behind (By Inverted) x id small n done d ws g f edge_at asked a same known = store_alike Inverted x ty.Bool (wire id []) n done d ws g f asked refl a same (known g)
  coil_behind (By Set) x id small n done d ws g f edge_at asked a same known = store_alike Set x ty.Bool (wire id []) n done d ws g f asked refl a same (known g)
  coil_behind (By Reset) x id small n done d ws g f edge_at asked a same known = store_alike Reset x ty.Bool (wire id []) n done d ws g f asked refl a same (known g)
  coil_behind RisingCoil x id small n done d ws g f edge_at asked a same known =
      let m = d.memories c.site.path (AtEdge id) in
      let v = and_of n (not_of m) in
      let leaf = leaf_named vs c.site x in
      let edge = memory_known c site d g f (AtEdge id) ty.Bool a (edge_at refl) in
      let value_is = and_known c g.store f (wire id []) (Not (memory (AtEdge id))) n (not_of m) (known g) (not_known c g.store f (memory (AtEdge id)) m edge) in
      let first = assign_variable c vs call g f x (both (wire id []) (Not (memory (AtEdge id)))) ty.Bool v asked value_is in
      let g' : TextState = record g { store = put g.store leaf v } in
      let second = assign_memory c call g' f (AtEdge id) (wire id []) ty.Bool n (edge_at refl) (known g') in
      alike_as _ _ (ap (λ o. then_do o (list_runs (Assign (memory_name (AtEdge id)) (wire id []) ∷ []) c call)) first ∙ (then_ended _ ∙ second))
      (both_end (agree_memory (set_leaf d leaf v) g' c.site.path (AtEdge id) n small (agree_set d g leaf v asked.declared a)) same)
  coil_behind FallingCoil x id small n done d ws g f edge_at asked a same known =
      let m = d.memories c.site.path (AtEdge id) in
      let v = and_of (not_of n) m in
      let leaf = leaf_named vs c.site x in
      let edge = memory_known c site d g f (AtEdge id) ty.Bool a (edge_at refl) in
      let value_is = and_known c g.store f (Not (wire id [])) (memory (AtEdge id)) (not_of n) m (not_known c g.store f (wire id []) n (known g)) edge in
      let first = assign_variable c vs call g f x (both (Not (wire id [])) (memory (AtEdge id))) ty.Bool v asked value_is in
      let g' : TextState = record g { store = put g.store leaf v } in
      let second = assign_memory c call g' f (AtEdge id) (wire id []) ty.Bool n (edge_at refl) (known g') in
      alike_as _ _ (ap (λ o. then_do o (list_runs (Assign (memory_name (AtEdge id)) (wire id []) ∷ []) c call)) first ∙ (then_ended _ ∙ second))
      (both_end (agree_memory (set_leaf d leaf v) g' c.site.path (AtEdge id) n small (agree_set d g leaf v asked.declared a)) same)

  pub coil_alike : (how : Coiling) (x : List ℕ) (id : ℕ) → id < 2 ^ 64 → (l : Expression) (n : ℤ) (done : List (ℕ × Port)) (d : DiagramState) (ws : Wires) (g : TextState) (f : Frame)
      → referent_of c (wire_name id []) ≡ Temporary ty.Bool → (coils_edge how ≡ true → referent_of c (memory_name (AtEdge id)) ≡ Kept ty.Bool) → VariableAsked c vs x ty.Bool
      → Agree d g → SameWires done ws f → value_of l c g.store f ≡ Given (value ty.Bool n)
      → Alike (SameWires ((id, port [] ty.Bool) ∷ done)) (Ended (coil_does how (leaf_named vs c.site x) c.site.path id n d) (fix ws id [] n))
      (list_runs (Assign (wire_name id []) l ∷ coil_text how x (AtEdge id) (wire id [])) c call g f)
  coil_alike how x id small l n done d ws g f wire_at edge_at asked a same known =
      let first = assign_temporary c call g f (wire_name id []) l ty.Bool n wire_at known in
      alike_as _ _ (ap (λ o. then_do o (list_runs (coil_text how x (AtEdge id) (wire id [])) c call)) first)
      (coil_behind how x id small n ((id, port [] ty.Bool) ∷ done) d (fix ws id [] n) g (hold f (wire_name id []) n) edge_at asked a (wires_fix id small (port [] ty.Bool) n done ws f same)
      (λ h. wire_known c h.store (hold f (wire_name id []) n) id [] ty.Bool wire_at ∙ ap (λ k. Given (value ty.Bool k)) (held f (wire_name id []) n)))
