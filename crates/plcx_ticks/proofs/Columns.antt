-- Columns: what is read of a name, and of a header, is what it stands for.
use Rattle.std.proofs.Common.{◌≡◌, ◌<◌, ◌≤◌, ◌+◌, ◌⊎◌, inl, inr, ◌∷◌, ◌++◌, ◌∙◌, ℕ, suc, Bool, true, false, List, [], Some, None, cond, take, drop, length, refl, sym, ap, ap₂, subst, arith, zero-add, if◌then◌else◌}
use Rattle.std.specs.Prelude.{slice_get, ◌&&◌, nat_eq, codes}
use Rattle.std.specs.Option.{option_map, option_and_then}
use Rattle.std.specs.List.{list_any, position_from}
use Rattle.std.proofs.lemmas.Bool.{and_parts, or_parts, or_from, eqb-true, false_from_ne_true, cases_lt}
use Rattle.std.proofs.lemmas.Iterator.Adapters.{position_from-zero}
use Rattle.std.proofs.lemmas.Option.{same_Some, slice_get-map, slice_get_within, get_or_from_slice_get}
use Rattle.std.proofs.lemmas.Slice.Eq.{bytes_eq-Decides}
use Rattle.plcx_types.specs.Name.{in_lower_case}
use Rattle.plcx_types.specs.Lists.{Each}
use Rattle.plcx_types.proofs.DurationsRead.{bound}
use Rattle.plcx_types.proofs.Wholes.{mapped}
use Rattle.plcx_meaning.specs.Layout.{Leaf as Meant}
use Rattle.plcx_state.specs.declared.layout.Leaf.{Leaf}
use Rattle.plcx_state.specs.Layouts.{Laid, all_meant, meant, meant_path}
use Rattle.plcx_state.specs.Retains.{Pairwise}
use Rattle.plcx_state.proofs.Eaches.{each_get}
use Rattle.plcx_state.proofs.Places.{found_passes, first_found, one_place}
use Rattle.plcx_scan.specs.Files as files
use Rattle.plcx_scan.specs.Files.{Record}
use Rattle.plcx_scan.specs.ReadFiles.{field, has_word, column_named, IsColumnOf}
use Rattle.plcx_scan.proofs.Headers.{column_sound, column_complete, two_words}
use Rattle.plcx_tasks.specs.declared.planning.Instance.{Instance}
use Rattle.plcx_ticks.specs.declared.column.TickColumn.{TickColumn}
use Rattle.plcx_ticks.specs.Ticks.{point, IsPointed, AreNamedApart, IsColumn, IsHeader, meant_lays}
use Rattle.plcx_ticks.specs.ReadTicks.{tables_of, IsTable, is_named, instance_named, point_in, tick_column, column_in, column_at, column_from, column_of, columns_from, are_once, columns_of}

-- the first point that is found
pointed : (text : List ℕ) (k n : ℕ) → position_from (nat_eq point) k text ≡ Some n → (i : ℕ) × (n ≡ k + i) × IsPointed text (take i text) (drop (i + 1) text)
pointed [] k n e = absurd (cc)
pointed (b ∷ text) k n e = by (nat_eq point b) refl e (λ h. pointed text (k + 1) n h)
  where
    by : (t : Bool) → nat_eq point b ≡ t → cond t (Some k) (position_from (nat_eq point) (k + 1) text) ≡ Some n
        → (position_from (nat_eq point) (k + 1) text ≡ Some n → (i : ℕ) × (n ≡ k + 1 + i) × IsPointed text (take i text) (drop (i + 1) text))
        → (i : ℕ) × (n ≡ k + i) × IsPointed (b ∷ text) (take i (b ∷ text)) (drop (i + 1) (b ∷ text))
    by true is h rest =
        let same : k ≡ n = same_Some k n h in
        let byte : point ≡ b = eqb-true point b is in
        (0, (omega arith), record { text_is = ap (λ x. x ∷ text) (sym byte); first = refl })
    by false is h rest =
        let r = rest h in
        let more : suc r.0 + 1 ≡ suc (r.0 + 1) = omega arith in (
          suc r.0,
          (let z = r.1 in omega arith),
          subst (λ m. IsPointed (b ∷ text) (b ∷ take r.0 text) (drop m (b ∷ text))) (sym more) (record { text_is = ap (λ (t : List ℕ). b ∷ t) r.2.text_is; first = or_from (nat_eq point b) (list_any (nat_eq point) (take r.0 text)) is r.2.first }),
        )

pub point_sound : (text : List ℕ) (p : ℕ) → point_in text ≡ Some p → IsPointed text (take p text) (drop (p + 1) text)
unfolding point_in
point_sound text p e =
    let r = pointed text 0 p (sym (position_from-zero (nat_eq point) text) ∙ e) in
    let same : r.0 ≡ p = (let z = r.1 in omega arith) in
    subst (λ i. IsPointed text (take i text) (drop (i + 1) text)) same r.2

-- the point behind a front without points is found, and what is around it is both parts
record IsSplit (front behind : List ℕ) (k : ℕ) : Type 0 where
  found : position_from (nat_eq point) k (front ++ point ∷ behind) ≡ Some (k + length front)
  before : take (length front) (front ++ point ∷ behind) ≡ front
  after : drop (length front + 1) (front ++ point ∷ behind) ≡ behind

split : (front behind : List ℕ) → list_any (nat_eq point) front ≡ false → (k : ℕ) → IsSplit front behind k
split [] behind h k = record { found = (let z : k ≡ k + 0 = omega arith in ap Some z); before = refl; after = refl }
split (b ∷ front) behind h k =
    let parts = or_parts (nat_eq point b) (list_any (nat_eq point) front) h in
    let rest = split front behind parts.1 (k + 1) in
    let z : k + 1 + length front ≡ k + suc (length front) = omega arith in
    let w : suc (length front) + 1 ≡ suc (length front + 1) = omega arith in
    record {
      found = ap (λ t. cond t (Some k) (position_from (nat_eq point) (k + 1) (front ++ point ∷ behind))) parts.0 ∙ rest.found ∙ ap Some z;
      before = ap (λ (t : List ℕ). b ∷ t) rest.before;
      after = ap (λ n. drop n (b ∷ (front ++ point ∷ behind))) w ∙ rest.after;
    }

-- and so in a text
pub record AreParts (text front behind : List ℕ) : Type 0 where
  pub found : point_in text ≡ Some (length front)
  pub before : take (length front) text ≡ front
  pub after : drop (length front + 1) text ≡ behind

pub parts_of : (text front behind : List ℕ) → IsPointed text front behind → AreParts text front behind
unfolding point_in
parts_of text front behind h =
    let s = split front behind h.first 0 in
    record {
      found = position_from-zero (nat_eq point) text ∙ ap (position_from (nat_eq point) 0) h.text_is ∙ s.found ∙ ap Some (zero-add (length front));
      before = ap (take (length front)) h.text_is ∙ s.before;
      after = ap (drop (length front + 1)) h.text_is ∙ s.after;
    }

-- an instance is known by its name
pub one_instance : (xs : List Instance) → AreNamedApart xs → (i j : ℕ) (a b : Instance) → slice_get xs i ≡ Some a → slice_get xs j ≡ Some b → in_lower_case a.name ≡ in_lower_case b.name → i ≡ j
one_instance xs apart i j a b p q e = by (cases_lt i j) (cases_lt j i)
  where
    differ : (m n : ℕ) (c d : Instance) → m < n → slice_get xs m ≡ Some c → slice_get xs n ≡ Some d → in_lower_case c.name ≡ in_lower_case d.name → ⊥
    differ m n c d lt at there same =
        apart m n c lt (slice_get_within xs n d there)
        (ap (λ (x : Instance). in_lower_case x.name) (get_or_from_slice_get xs m c c at) ∙ same ∙ ap (λ (x : Instance). in_lower_case x.name) (sym (get_or_from_slice_get xs n d c there)))

    by : (i < j) ⊎ (j ≤ i) → (j < i) ⊎ (i ≤ j) → i ≡ j
    by (inl lt) o = absurd (differ i j a b lt p q e)
    by (inr le) (inl lt) = absurd (differ j i b a lt q p (sym e))
    by (inr le) (inr ge) = omega arith

instance_sound : (name : List ℕ) (xs : List Instance) (i : ℕ) → instance_named name xs ≡ Some i → (x : Instance) × (slice_get xs i ≡ Some x) × (in_lower_case x.name ≡ in_lower_case name)
unfolding instance_named
instance_sound name xs i e =
    let r = found_passes (is_named name) xs 0 i (sym (position_from-zero (is_named name) xs) ∙ e) in
    let number : i ≡ r.0 = r.2 ∙ zero-add r.0 in
    (r.1, ap (slice_get xs) number ∙ r.3, (bytes_eq-Decides (in_lower_case r.1.name) (in_lower_case name)).0 r.4)

instance_complete : (name : List ℕ) (xs : List Instance) → AreNamedApart xs → (i : ℕ) (x : Instance) → slice_get xs i ≡ Some x → in_lower_case x.name ≡ in_lower_case name → instance_named name xs ≡ Some i
unfolding instance_named
instance_complete name xs apart i x at is =
    position_from-zero (is_named name) xs
    ∙ first_found (is_named name) xs 0 i x at ((bytes_eq-Decides (in_lower_case x.name) (in_lower_case name)).1 is) others ∙ ap Some (zero-add i)
  where
    others : (j : ℕ) (y : Instance) → j < i → slice_get xs j ≡ Some y → is_named name y ≡ false
    others j y lt there = false_from_ne_true (is_named name y) (λ e.
        let same = one_instance xs apart i j x y at there (is ∙ sym ((bytes_eq-Decides (in_lower_case y.name) (in_lower_case name)).0 e)) in
        omega arith)

-- a column is that of a settable leaf of an instance with such a layout
pub record IsColumnIn (lays : List Laid) (c : TickColumn) : Type 0 where
  pub own : Laid
  pub there : slice_get lays c.instance ≡ Some own
  pub leaf : Leaf
  pub is_leaf : slice_get own.leaves c.leaf ≡ Some leaf
  pub settable : leaf.settable ≡ true
  pub typed : c.ty ≡ leaf.ty

-- a column that is read is that of the text
module _ (instances : List Instance) (lays : List Laid) (tables : Each IsTable (tables_of lays)) where
  pub named_sound : (text : List ℕ) (c : TickColumn) → column_of instances (tables_of lays) text ≡ Some c → IsColumn instances (meant_lays lays) text c × IsColumnIn lays c
  unfolding column_of
  named_sound text c e =
      let p = bound (column_from instances (tables_of lays) text) (point_in text) c e in
      let i = bound (column_at (tables_of lays) (drop (p.0 + 1) text)) (instance_named (take p.0 text) instances) c p.2 in
      let l = bound (column_in (drop (p.0 + 1) text) i.0) (slice_get (tables_of lays) i.0) c i.2 in
      let d = mapped (tick_column i.0) (column_named l.0 (drop (p.0 + 1) text)) c l.2 in
      let own = mapped (λ (x : Laid). x.leaves) (slice_get lays i.0) l.0 (sym (slice_get-map (λ (x : Laid). x.leaves) lays i.0) ∙ l.1) in
      let tells = (each_get IsTable (tables_of lays) i.0 l.0 l.1 tables).tells in
      let found = column_sound l.0 tells (drop (p.0 + 1) text) d.0 d.1 in
      let x = instance_sound (take p.0 text) instances i.0 i.1 in
      let of : IsColumnOf l.0 d.0 found.0 = found.2 in
      subst (λ (z : TickColumn). IsColumn instances (meant_lays lays) text z × IsColumnIn lays z) d.2 (
        record {
          front = take p.0 text;
          name = drop (p.0 + 1) text;
          pointed = point_sound text p.0 p.1;
          instance = x.0;
          there = x.1;
          named = x.2;
          leaves = all_meant l.0;
          own = slice_get-map (λ (y : Laid). all_meant y.leaves) lays i.0 ∙ ap (option_map (λ (y : Laid). all_meant y.leaves)) own.1 ∙ ap (λ (ls : List Leaf). Some (all_meant ls)) own.2;
          leaf = found.0;
          is_leaf = slice_get-map meant l.0 d.0.leaf ∙ ap (option_map meant) of.there ∙ ap Some (sym of.meant_is);
          column = found.1;
          typed = of.typed ∙ ap (λ (m : Meant). m.ty) (sym of.meant_is);
        },
        record { own = own.0; there = own.1; leaf = of.own; is_leaf = ap (λ (ls : List Leaf). slice_get ls d.0.leaf) own.2 ∙ of.there; settable = of.settable; typed = of.typed },
      )

  pub named_complete : AreNamedApart instances → (text : List ℕ) (c : TickColumn) → IsColumn instances (meant_lays lays) text c → column_of instances (tables_of lays) text ≡ Some c
  unfolding column_of
  named_complete apart text c h =
      let parts = parts_of text h.front h.name h.pointed in
      let own = mapped (λ (y : Laid). all_meant y.leaves) (slice_get lays c.instance) h.leaves (sym (slice_get-map (λ (y : Laid). all_meant y.leaves) lays c.instance) ∙ h.own) in
      let leaves = own.0.leaves in
      let there : slice_get (tables_of lays) c.instance ≡ Some leaves = slice_get-map (λ (x : Laid). x.leaves) lays c.instance ∙ ap (option_map (λ (x : Laid). x.leaves)) own.1 in
      let tells = (each_get IsTable (tables_of lays) c.instance leaves there tables).tells in
      let found = column_complete leaves tells h.name h.leaf (subst (λ (ms : List Meant). files.IsColumn ms h.name h.leaf) (sym own.2) h.column) in
      let of : IsColumnOf leaves found.0 h.leaf = found.2 in
      let at = mapped meant (slice_get leaves c.leaf) h.leaf (sym (slice_get-map meant leaves c.leaf) ∙ ap (λ (ms : List Meant). slice_get ms c.leaf) own.2 ∙ h.is_leaf) in
      let paths : meant_path of.own.path ≡ meant_path at.0.path = ap (λ (m : Meant). m.path) (sym of.meant_is) ∙ ap (λ (m : Meant). m.path) (sym at.2) in
      let number : found.0.leaf ≡ c.leaf = one_place leaves tells.told.apart found.0.leaf c.leaf of.own at.0 of.there at.1 paths in
      let typed : found.0.ty ≡ c.ty = of.typed ∙ ap (λ (m : Meant). m.ty) (sym of.meant_is) ∙ sym h.typed in
      let same : tick_column c.instance found.0 ≡ c = ap₂ (λ n t. record { instance = c.instance; leaf = n; ty = t }) number typed in
      ap (option_and_then (column_from instances (tables_of lays) text)) parts.found
      ∙ ap₂ (λ (front behind : List ℕ). option_and_then (column_at (tables_of lays) behind) (instance_named front instances)) parts.before parts.after
      ∙ ap (option_and_then (column_at (tables_of lays) h.name)) (instance_complete h.front instances apart c.instance h.instance h.there h.named)
      ∙ ap (option_and_then (column_in h.name c.instance)) there
      ∙ ap (option_map (tick_column c.instance)) found.1
      ∙ ap Some same

  columns_sound : (names : List (List ℕ)) (cs : List TickColumn) → columns_from instances (tables_of lays) names ≡ Some cs → Pairwise (IsColumn instances (meant_lays lays)) names cs × Each (IsColumnIn lays) cs
  columns_sound [] [] e = (tt, tt)
  columns_sound [] (c ∷ cs) e = absurd (let same : [] ≡ c ∷ cs = same_Some [] (c ∷ cs) e in cc)
  columns_sound (name ∷ names) cs e =
      let first = bound (λ (c : TickColumn). option_map (λ (t : List TickColumn). c ∷ t) (columns_from instances (tables_of lays) names)) (column_of instances (tables_of lays) name) cs e in
      let rest = mapped (λ (t : List TickColumn). first.0 ∷ t) (columns_from instances (tables_of lays) names) cs first.2 in
      let one = named_sound name first.0 first.1 in
      let more = columns_sound names rest.0 rest.1 in
      subst (λ (t : List TickColumn). Pairwise (IsColumn instances (meant_lays lays)) (name ∷ names) t × Each (IsColumnIn lays) t) rest.2 ((one.0, more.0), (one.1, more.1))

  columns_complete : AreNamedApart instances → (names : List (List ℕ)) (cs : List TickColumn) → Pairwise (IsColumn instances (meant_lays lays)) names cs → columns_from instances (tables_of lays) names ≡ Some cs
  columns_complete apart [] [] h = refl
  columns_complete apart [] (c ∷ cs) h = absurd h
  columns_complete apart (name ∷ names) [] h = absurd h
  columns_complete apart (name ∷ names) (c ∷ cs) h =
      ap (option_and_then (λ (x : TickColumn). option_map (λ (t : List TickColumn). x ∷ t) (columns_from instances (tables_of lays) names))) (named_complete apart name c h.0)
      ∙ ap (option_map (λ (t : List TickColumn). c ∷ t)) (columns_complete apart names cs h.1)

  -- a header is read as its columns
  pub header_sound : (header : Record) (cs : List TickColumn) → columns_of instances (tables_of lays) header ≡ Some cs → IsHeader instances (meant_lays lays) header cs × Each (IsColumnIn lays) cs
  unfolding columns_of
  header_sound header cs e = by (has_word header 0 (codes "event") && has_word header 1 (codes "time")) refl (are_once header) refl e
    where
      by : (b : Bool) → (has_word header 0 (codes "event") && has_word header 1 (codes "time")) ≡ b → (o : Bool) → are_once header ≡ o
          → (if b then (if o then columns_from instances (tables_of lays) (drop 2 header) else None) else None) ≡ Some cs → IsHeader instances (meant_lays lays) header cs × Each (IsColumnIn lays) cs
      by false is o once h = absurd (cc)
      by true is false once h = absurd (cc)
      by true is true once h =
          let words = and_parts (has_word header 0 (codes "event")) (has_word header 1 (codes "time")) is in
          let names = columns_sound (drop 2 header) cs h in (
            record {
              names = drop 2 header;
              header_is = two_words _ _ _ _ header ((bytes_eq-Decides (field header 0) (codes "event")).0 words.0) ((bytes_eq-Decides (field header 1) (codes "time")).0 words.1);
              are_columns = names.0;
              once = once;
            },
            names.1,
          )

  -- and the columns that it stands for are read
  pub header_complete : AreNamedApart instances → (header : Record) (cs : List TickColumn) → IsHeader instances (meant_lays lays) header cs → columns_of instances (tables_of lays) header ≡ Some cs
  unfolding columns_of
  header_complete apart header cs h =
      ap (columns_of instances (tables_of lays)) h.header_is
      ∙ ap (λ b. if b then columns_from instances (tables_of lays) h.names else None) h.once
      ∙ columns_complete apart h.names cs h.are_columns
