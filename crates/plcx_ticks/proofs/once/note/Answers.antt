use Rattle.std.proofs.Common.{◌∙◌, ◌∷◌, List, ℕ, sym, ap₂}
use Rattle.std.specs.Prelude.{◌||◌}
use Rattle.std.specs.Str.{bytes_eq}
use Rattle.std.proofs.lemmas.List.Sorted.{list_any-IsPermutation}
use Rattle.plcx_ticks.proofs.once.note.Goals as goal

pub returns-clause-noted : goal.returns-clause-noted
returns-clause-noted c = λ new before notes q.
    sym (list_any-IsPermutation (λ k. bytes_eq q k.items) (c.in_ok-key.key ∷ c.args.seen.now.keys) c.insert.new.self.keys (rw new at c.in_ok-insert.ensures.keys))
    ∙ ap₂ (λ (k : List ℕ) b. bytes_eq q k || b) c.in_ok-key.ensures (notes q)
