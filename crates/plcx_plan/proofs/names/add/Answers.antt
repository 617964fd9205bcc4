use Rattle.std.proofs.Common.{◌≡◌, Bool, true, false, not, ◌∷◌, refl, sym}
use Rattle.std.specs.Str.{bytes_eq}
use Rattle.std.proofs.lemmas.List.Sorted.{list_any-IsPermutation}
use Rattle.plcx_plan.proofs.names.add.Goals as goal

new : (b : Bool) → not b ≡ false → b ≡ true
new true h = refl
new false h = cc

pub returns-clause-added : goal.returns-clause-added
returns-clause-added c = λ no q. sym (list_any-IsPermutation (λ k. bytes_eq q k.items) (c.args.key ∷ c.args.seen.now.keys) c.insert.new.self.keys (rw (new _ no) at c.in_ok-insert.ensures.keys))
