use Rattle.std.proofs.Common.{refl, Some}
use Rattle.plcx_meaning.specs.Base.{same_memory}
use Rattle.plcx_tables.specs.Named.{memory_of}
use Rattle.plcx_tables.proofs.Growing.{more_told}
use Rattle.plcx_tables.proofs.Equals.{memories_alike, by_keys}
use Rattle.plcx_tables.proofs.named.with_memory.Goals as goal

pub returns : goal.returns
returns c =
    let before = c.args.memories in
    let after = c.in_ok-with.field-0 in
    λ places told. more_told memory_of same_memory memories_alike _ (by_keys _ (λ i j. refl) (λ i j m. refl) (λ i j n. refl) (λ i j n m. refl)) before.numbers.entries after.numbers.entries before.count after.count (Some c.args.key) c.in_ok-with.ensures.numbers c.in_ok-with.ensures.count places told
