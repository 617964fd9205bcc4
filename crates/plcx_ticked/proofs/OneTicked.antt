-- The run of a plan over a file of ticks leaves one text, or is refused at one row.
use Rattle.std.proofs.Common.{◌≡◌, ◌∙◌, ◌∷◌, ◌++◌, ℕ, zero, suc, List, [], Some, None, map, refl, sym, ap, ap₂, subst}
use Rattle.std.specs.Prelude.{slice_get, Option, codes}
use Rattle.std.specs.Option.{option_map}
use Rattle.std.specs.List.{flat_map}
use Rattle.std.proofs.lemmas.Option.{same_Some, slice_get-map}
use Rattle.plcx_types.specs.Lists.{Each}
use Rattle.plcx_types.proofs.Wholes.{mapped}
use Rattle.plcx_meaning.specs.Layout.{IsLayout}
use Rattle.plcx_meaning.specs.Layout.{Leaf as Meant}
use Rattle.plcx_meaning.specs.Traces.{lines_from}
use Rattle.plcx_state.specs.declared.layout.Leaf.{Leaf}
use Rattle.plcx_state.specs.Layouts.{Laid, all_meant}
use Rattle.plcx_state.specs.Retains.{Pairwise}
use Rattle.plcx_state.proofs.Pairing.{pair_at}
use Rattle.plcx_scan.specs.Events.{meant_events}
use Rattle.plcx_scan.specs.Files.{records_of}
use Rattle.plcx_scan.specs.Rows.{shown_leaves}
use Rattle.plcx_scan.specs.Sides.{told as told_of}
use Rattle.plcx_scan.specs.Texts.{word}
use Rattle.plcx_traced.specs.Files.{IsLoaded}
use Rattle.plcx_traced.specs.Programs.{Programs}
use Rattle.plcx_traced.proofs.OneFile.{bytes_same, not_long}
use Rattle.plcx_traced.proofs.OneLines.{leaves_same}
use Rattle.plcx_tasks.specs.declared.planning.Instance.{Instance}
use Rattle.plcx_tasks.specs.declared.planning.TaskPlan.{TaskPlan}
use Rattle.plcx_tasks.specs.declared.rows.TaskRow.{TaskRow}
use Rattle.plcx_tasks.specs.declared.ticking.TaskEvent.{TaskEvent}
use Rattle.plcx_tasks.specs.Tasks.{own_events}
use Rattle.plcx_tasks.specs.Orders.{AreRowPlaces}
use Rattle.plcx_tasks.specs.Runs.{place_of, lines_of}
use Rattle.plcx_ticks.specs.Texts.{leaves_in, named_values, row_front, row_line, task_text}
use Rattle.plcx_ticks.specs.Ticks.{AreNamedApart, StandsForTicks, IsFirstWrong, meant_lays}
use Rattle.plcx_ticks.specs.ReadTicks.{tables_of}
use Rattle.plcx_ticks.proofs.OneTicks.{ticks_once, wrong_same, file_not_wrong}
use Rattle.plcx_ticked.specs.Files.{IsWrongRow, long, wrong}
use Rattle.plcx_ticked.specs.Cycles.{IsOwned, AreOwned, begun, AreRows, Cycles}
use Rattle.plcx_ticked.proofs.Alike.{rows_alike}
use Rattle.plcx_ticked.proofs.OneOrder.{one_places}
use Rattle.plcx_ticked.proofs.OneRows.{one_rows}

-- leaves, if they are there
leaves_or : Option (List Leaf) → List Leaf
leaves_or None = []
leaves_or (Some leaves) = leaves

-- the leaves that an instance of a row has
leaves_at : (lays : List Laid) (i : ℕ) → leaves_in (slice_get lays i) ≡ leaves_or (slice_get (tables_of lays) i)
unfolding leaves_or
leaves_at lays i = by (slice_get lays i) ∙ ap leaves_or (sym (slice_get-map (λ (l : Laid). l.leaves) lays i))
  where
    by : (o : Option Laid) → leaves_in o ≡ leaves_or (option_map (λ (l : Laid). l.leaves) o)
    by None = refl
    by (Some l) = refl

-- the text goes by the leaves
text_alike : (plan : TaskPlan) (lays others : List Laid) → tables_of lays ≡ tables_of others → (rows : List TaskRow) → flat_map (row_line plan lays) rows ≡ flat_map (row_line plan others) rows
text_alike plan lays others same [] = refl
text_alike plan lays others same (row ∷ rows) =
    ap₂ (λ (x y : List ℕ). x ++ y)
    (ap (λ (ls : List Leaf). row_front plan row ++ (word (told_of row.outcome) ++ (named_values (shown_leaves ls) row.values ++ codes "\n")))
    (leaves_at lays row.instance ∙ ap (λ (ts : List (List Leaf)). leaves_or (slice_get ts row.instance)) same ∙ sym (leaves_at others row.instance)))
    (text_alike plan lays others same rows)

module _ {P G : Type 0} (ps : Programs P G) where
  owned_same : (xs : List Instance) (ls ms : List Laid) → Pairwise (IsOwned ps) xs ls → Pairwise (IsOwned ps) xs ms → tables_of ls ≡ tables_of ms
  owned_same [] [] [] h k = refl
  owned_same [] [] (m ∷ ms) h k = absurd k
  owned_same [] (l ∷ ls) ms h k = absurd h
  owned_same (x ∷ xs) [] ms h k = absurd h
  owned_same (x ∷ xs) (l ∷ ls) [] h k = absurd k
  owned_same (x ∷ xs) (l ∷ ls) (m ∷ ms) h k =
      let program : h.0.program ≡ k.0.program = same_Some h.0.program k.0.program (sym h.0.is ∙ k.0.is) in
      let leaves : l.leaves ≡ m.leaves = leaves_same l.leaves m.leaves h.0.is_laid.typed k.0.is_laid.typed (h.0.leaves_are ∙ ap (λ (p : P). (ps.machine p).layout) program ∙ sym k.0.leaves_are) in
      ap₂ (λ (t : List Leaf) (ts : List (List Leaf)). t ∷ ts) leaves (owned_same xs ls ms h.1 k.1)

  meant_tables : (ls : List Laid) → meant_lays ls ≡ map all_meant (tables_of ls)
  meant_tables [] = refl
  meant_tables (l ∷ ls) = ap (λ (ts : List (List Meant)). all_meant l.leaves ∷ ts) (meant_tables ls)

  meant_same : (ls ms : List Laid) → tables_of ls ≡ tables_of ms → meant_lays ls ≡ meant_lays ms
  meant_same ls ms same = meant_tables ls ∙ ap (map all_meant) same ∙ sym (meant_tables ms)

  are_layouts : (xs : List Instance) (ls : List Laid) → Pairwise (IsOwned ps) xs ls → Each IsLayout (meant_lays ls)
  are_layouts [] [] h = tt
  are_layouts [] (l ∷ ls) h = absurd h
  are_layouts (x ∷ xs) [] h = absurd h
  are_layouts (x ∷ xs) (l ∷ ls) h = (h.0.is_laid.layout, are_layouts xs ls h.1)

  -- what is at a place of one list of layouts is at that of the other
  other_at : (ls ms : List Laid) → tables_of ls ≡ tables_of ms → (i : ℕ) (l : Laid) → slice_get ls i ≡ Some l → (m : Laid) × (slice_get ms i ≡ Some m) × (m.leaves ≡ l.leaves)
  other_at ls ms same i l at =
      mapped (λ (x : Laid). x.leaves) (slice_get ms i) l.leaves
      (sym (slice_get-map (λ (x : Laid). x.leaves) ms i) ∙ ap (λ (ts : List (List Leaf)). slice_get ts i) (sym same) ∙ slice_get-map (λ (x : Laid). x.leaves) ls i ∙ ap (option_map (λ (x : Laid). x.leaves)) at)

  -- the instance with a layout
  instance_at : (xs : List Instance) (ls : List Laid) → Pairwise (IsOwned ps) xs ls → (i : ℕ) (l : Laid) → slice_get ls i ≡ Some l → (x : Instance) × (slice_get xs i ≡ Some x)
  instance_at [] [] h i l at = absurd (cc)
  instance_at [] (m ∷ ls) h i l at = absurd h
  instance_at (x ∷ xs) [] h i l at = absurd h
  instance_at (x ∷ xs) (m ∷ ls) h zero l at = (x, refl)
  instance_at (x ∷ xs) (m ∷ ls) h (suc i) l at = instance_at xs ls h.1 i l at

  module _ (told : Option (List ℕ)) (bytes : List ℕ) (is : told ≡ Some bytes) (turns : ℕ) (plan : TaskPlan) where
    events_same : (lays : List (List Meant)) → Each IsLayout lays → AreNamedApart plan.instances → (a b : List TaskEvent) (x y : List ℕ) → IsLoaded told x → IsLoaded told y → StandsForTicks plan lays x a → StandsForTicks plan lays y b → a ≡ b
    events_same lays laid apart a b x y lx ly h k =
        let same = bytes_same told bytes x y is lx ly in
        ticks_once plan lays apart laid y a b (subst (λ (z : List ℕ). StandsForTicks plan lays z a) same h) k

    -- an instance has the same lines
    lines_same : (ls ms : List Laid) → AreOwned ps plan ls → tables_of ls ≡ tables_of ms → (es fs : List TaskEvent) → es ≡ fs → (rs ss : List TaskRow) → AreRows ps turns plan ls es rs → AreRows ps turns plan ms fs ss
        → (i : ℕ) (l : Laid) → slice_get ls i ≡ Some l → lines_of i rs ≡ lines_of i ss
    lines_same ls ms owned same es fs events rs ss h k i l at =
        let x = instance_at plan.instances ls owned.owned i l at in
        let own = pair_at (IsOwned ps) plan.instances ls owned.owned i x.0 l x.1 at in
        let other = other_at ls ms same i l at in
        h.lines i x.0 l x.1 at own.program own.is
        ∙ ap₂ (λ (leaves : List Leaf) (ds : List TaskEvent). lines_from (ps.machine own.program) turns (meant_events leaves (own_events plan ds i)) (begun (ps.machine own.program) leaves)) (sym other.2) events
        ∙ sym (k.lines i x.0 other.0 x.1 other.1 own.program own.is)

    -- the run leaves one text
    pub one_text : (a b : List ℕ) → Cycles told ps turns plan a → Cycles told ps turns plan b → a ≡ b
    one_text a b h k =
        let tables = owned_same plan.instances h.lays k.lays h.owned.owned k.owned.owned in
        let means = meant_same h.lays k.lays tables in
        let events : h.events ≡ k.events = events_same (meant_lays k.lays) (are_layouts plan.instances k.lays k.owned.owned) h.apart h.events k.events h.tells.bytes k.tells.bytes h.tells.loaded k.tells.loaded
        (subst (λ (ls : List (List Meant)). StandsForTicks plan ls h.tells.bytes h.events) means h.tells.stands) k.tells.stands in
        let places = one_places plan k.events (map place_of h.rows) (map place_of k.rows) (subst (λ (es : List TaskEvent). AreRowPlaces plan es (map place_of h.rows)) events h.are_rows.places) k.are_rows.places in
        let rows : h.rows ≡ k.rows =
        one_rows h.lays h.rows k.rows h.are_rows.shown (rows_alike k.lays h.lays (sym means) k.rows k.are_rows.shown) places (lines_same h.lays k.lays h.owned tables h.events k.events events h.rows k.rows h.are_rows k.are_rows) in
        h.text_is ∙ ap (λ (rs : List TaskRow). task_text plan h.lays rs) rows ∙ ap (λ (t : List ℕ). codes "event,instance,result\n" ++ t) (text_alike plan h.lays k.lays tables k.rows) ∙ sym k.text_is

    -- or is refused at one row
    pub one_row : (ls ms : List Laid) → AreOwned ps plan ls → AreOwned ps plan ms → (m n : ℕ) → IsWrongRow told plan ls m → IsWrongRow told plan ms n → m ≡ n
    one_row ls ms ol om m n (long a) (long b) = refl
    one_row ls ms ol om m n (long a) (wrong y ly k) = absurd (not_long told bytes y is ly a)
    one_row ls ms ol om m n (wrong x lx h) (long b) = absurd (not_long told bytes x is lx b)
    one_row ls ms ol om m n (wrong x lx h) (wrong y ly k) =
        let means = meant_same ls ms (owned_same plan.instances ls ms ol.owned om.owned) in
        let same = bytes_same told bytes x y is lx ly in
        wrong_same plan.instances (meant_lays ms) (records_of y) m n
        (subst (λ (z : List (List Meant)). IsFirstWrong plan.instances z (records_of y) m) means (subst (λ (z : List ℕ). IsFirstWrong plan.instances (meant_lays ls) (records_of z) m) same h)) k

    -- and not both
    pub no_row : (text : List ℕ) → Cycles told ps turns plan text → (ms : List Laid) → AreOwned ps plan ms → (n : ℕ) → IsWrongRow told plan ms n → ⊥
    no_row text h ms om n (long a) = not_long told bytes h.tells.bytes is h.tells.loaded a
    no_row text h ms om n (wrong y ly k) =
        let means = meant_same h.lays ms (owned_same plan.instances h.lays ms h.owned.owned om.owned) in
        let same = bytes_same told bytes y h.tells.bytes is ly h.tells.loaded in
        file_not_wrong plan (meant_lays h.lays) h.tells.bytes h.events h.tells.stands n
        (subst (λ (z : List (List Meant)). IsFirstWrong plan.instances z (records_of h.tells.bytes) n) (sym means) (subst (λ (z : List ℕ). IsFirstWrong plan.instances (meant_lays ms) (records_of z) n) same k))
