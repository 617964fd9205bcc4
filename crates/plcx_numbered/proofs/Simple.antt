-- Kinds of elements that call nothing: their steps do over numbers what they do over paths.
use Rattle.std.proofs.Common.{◌≡◌, ℕ, ◌+◌, ◌<◌, ◌≤◌, ℤ, pos, Bool, true, false, List, [], ◌∷◌, ◌++◌, length, set, Some, refl, sym, ap, ap₂, ◌∙◌, subst, arith}
use Rattle.std.specs.Prelude.{slice_get, if◌then◌else◌}
use Rattle.std.proofs.lemmas.List.{length-set}
use Rattle.std.proofs.lemmas.Option.{slice_get_within}
use Rattle.plcx_types.specs.Name.{in_lower_case}
use Rattle.plcx_types.specs.Value.{Value}
use Rattle.plcx_meaning.specs.Base.{AtEdge, is_true, and_of, not_of, Outcome, Ended, then_do, Site}
use Rattle.plcx_meaning.specs.Diagram as diagram
use Rattle.plcx_meaning.specs.Diagram.{Link, Own, Output, Storing, Stored, Inverted, Set, Reset, Contacting, Open, Closed, RisingContact, FallingContact, Coiling, By, RisingCoil, FallingCoil}
use Rattle.plcx_meaning.specs.Evaluate.{Heard, DiagramState, Wires, fix, set_leaf, set_memory, leaf_named, operand_leaf, link_value, store_by, contact_value, contact_does, coil_does}
use Rattle.plcx_steps.specs.declared.program.Operand.{Operand}
use Rattle.plcx_steps.specs.declared.program.Operand.TheVariants.{Leaf, InOut}
use Rattle.plcx_steps.specs.declared.program.Source.{Source}
use Rattle.plcx_steps.specs.declared.program.Source.TheVariants.{Wire}
use Rattle.plcx_steps.specs.declared.program.Action.TheVariants.{Write}
use Rattle.plcx_steps.specs.declared.program.Step.{Step}
use Rattle.plcx_steps.specs.declared.program.Step.TheVariants.{Act}
use Rattle.plcx_steps.specs.Numbered.{Numbered, Here, Entered, Frame, frame, bit, value_at, number_at, cells_of, read, leaf_at, step_in, steps_do}
use Rattle.plcx_numbered.specs.Agreeing.{AreApart, Shape, IsApart, Lies, Agree, SameInOuts, SameWires, Alike}
use Rattle.plcx_numbered.specs.Prepared.{on, off, operand_of, link_steps, link_source, store_steps, contact_steps, coil_steps}
use Rattle.plcx_numbered.specs.Right.{Place, variables, IsWire, IsCell, IsOperand, NamesOperand, RightLink, RightOperand, RightContact, RightCoil}
use Rattle.plcx_numbered.proofs.Keys.{pins_decide}
use Rattle.plcx_numbered.proofs.Holding.{wires_fix, agree_set, agree_keep}
use Rattle.plcx_numbered.proofs.Alikes.{both_end, alike_as, alike_from, steps_append}
use Rattle.plcx_numbered.proofs.Links.{spare_same, other_wire, same_wire, brought, stays}

-- a frame in which nothing is passed over, with the wires of the diagram, and as many as before
pub record InFrame (c : Place) (ws : Wires) (width : ℕ) (f : Frame) : Type 0 where
  pub skip : f.skip ≡ 0
  pub wires : SameWires c.pins ws f.wires
  pub width_is : length f.wires ≡ width

-- an output that is fixed has its value
pub fixed_self : (ws : Wires) (id : ℕ) (pin : List ℕ) (v : ℤ) → fix ws id pin v id pin ≡ v
fixed_self ws id pin v = ap (λ b. if b then v else ws id pin) ((pins_decide (id, pin) (id, pin)).1 refl)

module _ {M : Type 0} (whole : Shape) (apart : IsApart whole) (tell : M → Heard → M) (begun : M) (enter : Entered M) (c : Place) (pins_apart : AreApart c.pins) (spare : length c.pins ≤ c.num.spare) (site : Site) (here : Here)
    (lies : Lies whole c.plan.shape site.path here.at) (same_in_outs : SameInOuts whole c.plan.in_outs site.bound here.in_outs) where
  -- what a name stands for
  pub named_at : (x : List ℕ) (o : Operand) → NamesOperand c x o → slice_get whole.paths (leaf_at here.at here.in_outs o) ≡ Some (leaf_named (variables c) site x)
  named_at x (Leaf o) h = lies.paths o (in_lower_case x ∷ []) h.1 ∙ ap (λ b. Some (if b then site.bound (in_lower_case x) else in_lower_case x ∷ site.path)) (sym h.0)
  named_at x (InOut j) h = same_in_outs.each j (in_lower_case x) h.1 ∙ ap (λ b. Some (if b then site.bound (in_lower_case x) else in_lower_case x ∷ site.path)) (sym h.0)

  pub operand_at : (x : List ℕ) → IsOperand c x → slice_get whole.paths (leaf_at here.at here.in_outs (c.num.operand x)) ≡ Some (leaf_named (variables c) site x)
  operand_at x h = named_at x (c.num.operand x) h

  -- what is read of it
  pub operand_value : (d : DiagramState) (n : Numbered M) (own : List Value) → Agree whole tell begun d n → (o : diagram.Operand) → RightOperand c o → d.store (operand_leaf (variables c) site o) ≡ read here (cells_of n own) (operand_of c.num o)
  operand_value d n own a (Own x) h = a.store.each _ (leaf_named (variables c) site x) (operand_at x h)
  operand_value d n own a (Output i x) h = a.store.each (here.at.leaves + c.num.inner i x) (in_lower_case x ∷ in_lower_case i ∷ site.path) (lies.paths (c.num.inner i x) (in_lower_case x ∷ in_lower_case i ∷ []) h)

  pub stored : (d : DiagramState) (n : Numbered M) (x : List ℕ) (v : ℤ) (w : Value) → IsOperand c x → v ≡ w.n → Agree whole tell begun d n
      → Agree whole tell begun (set_leaf d (leaf_named (variables c) site x) v) (record n { values = set n.values (leaf_at here.at here.in_outs (c.num.operand x)) w })
  stored d n x v w h e a = agree_set whole apart tell begun d n (leaf_named (variables c) site x) (leaf_at here.at here.in_outs (c.num.operand x)) v w (operand_at x h) e a

  -- an output of the element gets a value
  pub wired : (ws : Wires) (own : List Value) (id : ℕ) (pin : List ℕ) (v : ℤ) (w : Value) → IsWire c id pin → v ≡ w.n → SameWires c.pins ws own → SameWires c.pins (fix ws id pin v) (set own (c.num.wire id pin) w)
  wired ws own id pin v w h e same = wires_fix c.pins pins_apart ws own id pin (c.num.wire id pin) v w h e same

  -- outputs stand below the spare wires
  pub below : (id : ℕ) (pin : List ℕ) → IsWire c id pin → c.num.wire id pin < c.num.spare
  below id pin h = let low = slice_get_within c.pins (c.num.wire id pin) _ h in omega arith

  -- ---- storing
  store_alike : (how : Storing) (x : List ℕ) → IsOperand c x → (s : Source) (v : ℤ) (d : DiagramState) (n : Numbered M) (ws : Wires) (own : List Value) (w : ℕ) → Agree whole tell begun d n → SameWires c.pins ws own → c.num.spare ≤ w → w < length own
      → read here (cells_of n own) s ≡ v → Alike whole tell begun (λ (u : Unit {0}) f. InFrame c ws (length own) f) (Ended (store_by how (leaf_named (variables c) site x) v d) tt) (steps_do tell enter here (store_steps how (c.num.operand x) s w) n (frame 0 own))
  store_alike Stored x h s v d n ws own w a same past low is = both_end (stored d n x v _ h (sym is) a) (record { skip = refl; wires = same; width_is = refl })
  store_alike Inverted x h s v d n ws own w a same past low is =
      let y = bit (not_of (read here (cells_of n own) s)) in
      both_end (stored d n x (not_of v) _ h (ap not_of (sym is) ∙ sym (same_wire whole tell enter c spare site here lies own w y low)) a)
      (record { skip = refl; wires = spare_same whole tell enter c spare site here lies ws own w y past same; width_is = length-set own w y })
  store_alike Set x h s v d n ws own w a same past low is =
      alike_from _ _ (ap (λ y. Ended (if is_true y then set_leaf d (leaf_named (variables c) site x) (pos 1) else d) tt) (sym is)) (by_test (is_true (read here (cells_of n own) s)))
    where
      by_test : (b : Bool) → Alike whole tell begun (λ (u : Unit {0}) f. InFrame c ws (length own) f) (Ended (if b then set_leaf d (leaf_named (variables c) site x) (pos 1) else d) tt)
          (then_do (step_in tell enter here (Act (Write (c.num.operand x) on)) (if b then 0 else 1) n own) (λ n' f'. Ended n' f'))
      by_test true = both_end (stored d n x (pos 1) _ h refl a) (record { skip = refl; wires = same; width_is = refl })
      by_test false = both_end a (record { skip = refl; wires = same; width_is = refl })
  store_alike Reset x h s v d n ws own w a same past low is =
      alike_from _ _ (ap (λ y. Ended (if is_true y then set_leaf d (leaf_named (variables c) site x) (pos 0) else d) tt) (sym is)) (by_test (is_true (read here (cells_of n own) s)))
    where
      by_test : (b : Bool) → Alike whole tell begun (λ (u : Unit {0}) f. InFrame c ws (length own) f) (Ended (if b then set_leaf d (leaf_named (variables c) site x) (pos 0) else d) tt)
          (then_do (step_in tell enter here (Act (Write (c.num.operand x) off)) (if b then 0 else 1) n own) (λ n' f'. Ended n' f'))
      by_test true = both_end (stored d n x (pos 0) _ h refl a) (record { skip = refl; wires = same; width_is = refl })
      by_test false = both_end a (record { skip = refl; wires = same; width_is = refl })

  -- ---- contacts
  edge_value : (d : DiagramState) (n : Numbered M) (id : ℕ) → Agree whole tell begun d n → IsCell c (AtEdge id) → d.memories site.path (AtEdge id) ≡ number_at n.memories (here.at.memories + c.num.memory (AtEdge id))
  edge_value d n id a h = a.memories.each (here.at.memories + c.num.memory (AtEdge id)) (site.path, AtEdge id) (lies.cells (c.num.memory (AtEdge id)) [] (AtEdge id) h)

  kept : (d : DiagramState) (n : Numbered M) (id : ℕ) (v : ℤ) (w : Value) → IsCell c (AtEdge id) → v ≡ w.n → Agree whole tell begun d n
      → Agree whole tell begun (set_memory d site.path (AtEdge id) v) (record n { memories = set n.memories (here.at.memories + c.num.memory (AtEdge id)) w })
  kept d n id v w h e a = agree_keep whole apart tell begun d n site.path (AtEdge id) (here.at.memories + c.num.memory (AtEdge id)) v w (lies.cells (c.num.memory (AtEdge id)) [] (AtEdge id) h) e a

  -- a contact, where the link's source reads so as long as outputs and the first spare wire stay
  pub contact_alike : (how : Contacting) (id : ℕ) → RightContact c id how → IsWire c id [] → (o : diagram.Operand) → RightOperand c o → (l : ℤ) (s : Source) (d : DiagramState) (n : Numbered M) (ws : Wires) (own : List Value)
      → Agree whole tell begun d n → SameWires c.pins ws own → c.num.spare + 3 ≤ length own
      → ((later : List Value) → SameWires c.pins ws later → number_at later c.num.spare ≡ number_at own c.num.spare → read here (cells_of n later) s ≡ l)
      → Alike whole tell begun (λ ws' f. InFrame c ws' (length own) f)
      (Ended (contact_does how site.path id (d.store (operand_leaf (variables c) site o)) d) (fix ws id [] (contact_value how l (d.store (operand_leaf (variables c) site o)) (d.memories site.path (AtEdge id)))))
      (steps_do tell enter here (contact_steps how s (operand_of c.num o) (c.num.memory (AtEdge id)) (c.num.wire id []) (c.num.spare + 1)) n (frame 0 own))
  contact_alike Open id edge wire o h l s d n ws own a same room reads =
      let v = operand_value d n own a o h in
      let x = bit (and_of (read here (cells_of n own) s) (read here (cells_of n own) (operand_of c.num o))) in
      both_end a (record { skip = refl; wires = wired ws own id [] _ x wire (ap₂ and_of (sym (reads own same refl)) v) same; width_is = length-set own (c.num.wire id []) x })
  contact_alike Closed id edge wire o h l s d n ws own a same room reads =
      let v = operand_value d n own a o h in
      let w = c.num.spare + 1 in
      let x = bit (not_of (read here (cells_of n own) (operand_of c.num o))) in
      let one = set own w x in
      let same' = spare_same whole tell enter c spare site here lies ws own w x (omega arith) same in
      let l_is = reads one same' (other_wire whole tell enter c spare site here lies own w c.num.spare x (λ e. let e' : c.num.spare ≡ c.num.spare + 1 = e in omega arith)) in
      let x_is = same_wire whole tell enter c spare site here lies own w x (omega arith) in
      let y = bit (and_of (read here (cells_of n one) s) (number_at one w)) in
      both_end a (record { skip = refl; wires = wired ws one id [] _ y wire (ap₂ and_of (sym l_is) (ap not_of v ∙ sym x_is)) same'; width_is = length-set one (c.num.wire id []) y ∙ length-set own w x })
  contact_alike RisingContact id edge wire o h l s d n ws own a same room reads =
      let w = c.num.spare + 1 in
      let x = bit (and_of (read here (cells_of n own) s) (read here (cells_of n own) (operand_of c.num o))) in
      let one = set own w x in
      let same1 = spare_same whole tell enter c spare site here lies ws own w x (omega arith) same in
      let y = bit (not_of (number_at n.memories (here.at.memories + c.num.memory (AtEdge id)))) in
      let two = set one (w + 1) y in
      let same2 = spare_same whole tell enter c spare site here lies ws one (w + 1) y (omega arith) same1 in
      let long = length-set own w x in
      let v = operand_value d n own a o h in
      let x_is = same_wire whole tell enter c spare site here lies own w x (omega arith) in
      let x_stays = other_wire whole tell enter c spare site here lies one (w + 1) w y (λ e. let e' : c.num.spare + 1 ≡ c.num.spare + 1 + 1 = e in omega arith) in
      let y_is = same_wire whole tell enter c spare site here lies one (w + 1) y (omega arith) in
      let z = bit (and_of (number_at two w) (number_at two (w + 1))) in
      let first = ap₂ and_of (sym (reads own same refl)) v ∙ sym (x_stays ∙ x_is) in
      let second = ap not_of (edge_value d n id a edge) ∙ sym y_is in
      both_end (kept d n id _ _ edge (operand_value d n (set two (c.num.wire id []) z) a o h) a)
      (record { skip = refl; wires = wired ws two id [] _ z wire (ap₂ and_of first second) same2; width_is = length-set two (c.num.wire id []) z ∙ length-set one (w + 1) y ∙ long })
  contact_alike FallingContact id edge wire o h l s d n ws own a same room reads =
      let w = c.num.spare + 1 in
      let v = operand_value d n own a o h in
      let x = bit (not_of (read here (cells_of n own) (operand_of c.num o))) in
      let one = set own w x in
      let same1 = spare_same whole tell enter c spare site here lies ws own w x (omega arith) same in
      let l_is = reads one same1 (other_wire whole tell enter c spare site here lies own w c.num.spare x (λ e. let e' : c.num.spare ≡ c.num.spare + 1 = e in omega arith)) in
      let x_is = same_wire whole tell enter c spare site here lies own w x (omega arith) in
      let long = length-set own w x in
      let y = bit (and_of (read here (cells_of n one) s) (number_at one w)) in
      let two = set one w y in
      let same2 = spare_same whole tell enter c spare site here lies ws one w y (omega arith) same1 in
      let y_is = same_wire whole tell enter c spare site here lies one w y (omega arith) in
      let z = bit (and_of (number_at two w) (number_at n.memories (here.at.memories + c.num.memory (AtEdge id)))) in
      let first = ap₂ and_of (sym l_is) (ap not_of v ∙ sym x_is) ∙ sym y_is in
      both_end (kept d n id _ _ edge (operand_value d n (set two (c.num.wire id []) z) a o h) a)
      (record { skip = refl; wires = wired ws two id [] _ z wire (ap₂ and_of first (edge_value d n id a edge)) same2; width_is = length-set two (c.num.wire id []) z ∙ length-set one w y ∙ long })

  -- ---- coils
  -- a coil whose wire has its link's value
  pub coil_alike : (how : Coiling) (x : List ℕ) → IsOperand c x → (id : ℕ) → RightCoil c id how → IsWire c id [] → (l : ℤ) (d : DiagramState) (n : Numbered M) (ws : Wires) (own : List Value)
      → Agree whole tell begun d n → SameWires c.pins ws own → ws id [] ≡ l → c.num.spare + 2 ≤ length own
      → Alike whole tell begun (λ (u : Unit {0}) f. InFrame c ws (length own) f) (Ended (coil_does how (leaf_named (variables c) site x) site.path id l d) tt)
      (steps_do tell enter here (coil_steps how (c.num.operand x) (c.num.memory (AtEdge id)) (c.num.wire id []) (c.num.spare + 1)) n (frame 0 own))
  coil_alike (By how) x h id edge wire l d n ws own a same is room =
      store_alike how x h (Wire (c.num.wire id [])) l d n ws own (c.num.spare + 1) a same (omega arith) (omega arith) (sym (same.each (c.num.wire id []) (id, []) wire) ∙ is)
  coil_alike RisingCoil x h id edge wire l d n ws own a same is room =
      let w = c.num.spare + 1 in
      let low = below id [] wire in
      let l_is = sym (same.each (c.num.wire id []) (id, []) wire) ∙ is in
      let y = bit (not_of (number_at n.memories (here.at.memories + c.num.memory (AtEdge id)))) in
      let one = set own w y in
      let same1 = spare_same whole tell enter c spare site here lies ws own w y (omega arith) same in
      let y_is = same_wire whole tell enter c spare site here lies own w y (omega arith) in
      let l_one = other_wire whole tell enter c spare site here lies own w (c.num.wire id []) y (λ e. let e' : c.num.wire id [] ≡ c.num.spare + 1 = e in omega arith) in
      let long = length-set own w y in
      let z = bit (and_of (number_at one (c.num.wire id [])) (number_at one w)) in
      let two = set one w z in
      let same2 = spare_same whole tell enter c spare site here lies ws one w z (omega arith) same1 in
      let z_is = same_wire whole tell enter c spare site here lies one w z (omega arith) in
      let l_two = other_wire whole tell enter c spare site here lies one w (c.num.wire id []) z (λ e. let e' : c.num.wire id [] ≡ c.num.spare + 1 = e in omega arith) in
      let value = ap₂ and_of (sym (l_one ∙ l_is)) (ap not_of (edge_value d n id a edge) ∙ sym y_is) ∙ sym z_is in
      both_end (kept _ _ id l _ edge (sym (l_two ∙ l_one ∙ l_is)) (stored d n x _ (value_at two w) h value a))
      (record { skip = refl; wires = same2; width_is = length-set one w z ∙ long })
  coil_alike FallingCoil x h id edge wire l d n ws own a same is room =
      let w = c.num.spare + 1 in
      let low = below id [] wire in
      let l_is = sym (same.each (c.num.wire id []) (id, []) wire) ∙ is in
      let y = bit (not_of (number_at own (c.num.wire id []))) in
      let one = set own w y in
      let same1 = spare_same whole tell enter c spare site here lies ws own w y (omega arith) same in
      let y_is = same_wire whole tell enter c spare site here lies own w y (omega arith) in
      let l_one = other_wire whole tell enter c spare site here lies own w (c.num.wire id []) y (λ e. let e' : c.num.wire id [] ≡ c.num.spare + 1 = e in omega arith) in
      let long = length-set own w y in
      let z = bit (and_of (number_at one w) (number_at n.memories (here.at.memories + c.num.memory (AtEdge id)))) in
      let two = set one w z in
      let same2 = spare_same whole tell enter c spare site here lies ws one w z (omega arith) same1 in
      let z_is = same_wire whole tell enter c spare site here lies one w z (omega arith) in
      let l_two = other_wire whole tell enter c spare site here lies one w (c.num.wire id []) z (λ e. let e' : c.num.wire id [] ≡ c.num.spare + 1 = e in omega arith) in
      let value = ap₂ and_of (ap not_of (sym l_is) ∙ sym y_is) (edge_value d n id a edge) ∙ sym z_is in
      both_end (kept _ _ id l _ edge (sym (l_two ∙ l_one ∙ l_is)) (stored d n x _ (value_at two w) h value a))
      (record { skip = refl; wires = same2; width_is = length-set one w z ∙ long })

  -- ---- links
  -- a link, and steps behind it that read its source
  pub behind_link : {L : Type 0} {R : L → Frame → Type 0} (link : Link) → RightLink c link → (d : DiagramState) (n : Numbered M) (ws : Wires) (own : List Value) → Agree whole tell begun d n → SameWires c.pins ws own → c.num.spare < length own
      → (steps : List Step) (o : Outcome DiagramState L)
      → ((after : List Value) → SameWires c.pins ws after → length after ≡ length own
      → ((later : List Value) → SameWires c.pins ws later → number_at later c.num.spare ≡ number_at after c.num.spare → read here (cells_of n later) (link_source c.num c.num.spare link) ≡ link_value site.path d ws link)
      → Alike whole tell begun R o (steps_do tell enter here steps n (frame 0 after)))
      → Alike whole tell begun R o (steps_do tell enter here (link_steps c.num c.num.spare link ++ steps) n (frame 0 own))
  behind_link link h d n ws own a same room steps o go =
      let b = brought whole tell enter c spare site here lies d n ws a.memories c.num.spare (omega arith) link h own same room in
      alike_as _ _ (steps_append tell enter here (link_steps c.num c.num.spare link) steps n (frame 0 own) ∙ ap (λ q. then_do q (λ n' f'. steps_do tell enter here steps n' f')) b.does)
      (go b.after b.same b.width (λ later same' e. stays whole tell enter c spare site here lies d n ws a.memories c.num.spare (omega arith) link h b.after later b.value same' e))

  pub out_alike : (how : Storing) (x : List ℕ) → IsOperand c x → (link : Link) → RightLink c link → (d : DiagramState) (n : Numbered M) (ws : Wires) (own : List Value) → Agree whole tell begun d n → SameWires c.pins ws own → c.num.spare + 2 ≤ length own
      → Alike whole tell begun (λ (u : Unit {0}) f. InFrame c ws (length own) f) (Ended (store_by how (leaf_named (variables c) site x) (link_value site.path d ws link) d) tt)
      (steps_do tell enter here (link_steps c.num c.num.spare link ++ store_steps how (c.num.operand x) (link_source c.num c.num.spare link) (c.num.spare + 1)) n (frame 0 own))
  out_alike how x h link r d n ws own a same room =
      behind_link link r d n ws own a same (omega arith) (store_steps how (c.num.operand x) (link_source c.num c.num.spare link) (c.num.spare + 1)) _
      (λ after same' width reads.
      subst (λ k. Alike whole tell begun (λ (u : Unit {0}) f. InFrame c ws k f) (Ended (store_by how (leaf_named (variables c) site x) (link_value site.path d ws link) d) tt) (steps_do tell enter here (store_steps how (c.num.operand x) (link_source c.num c.num.spare link) (c.num.spare + 1)) n (frame 0 after))) width
      (store_alike how x h (link_source c.num c.num.spare link) _ d n ws after (c.num.spare + 1) a same' (omega arith) (omega arith) (reads after same' refl)))
