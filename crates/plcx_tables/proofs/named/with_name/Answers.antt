use Rattle.std.proofs.Common.{refl, Some, None}
use Rattle.plcx_rules.specs.Texts.{same_name}
use Rattle.plcx_tables.specs.Named.{text_of}
use Rattle.plcx_tables.proofs.Growing.{more_told}
use Rattle.plcx_tables.proofs.Equals.{texts_alike}
use Rattle.plcx_tables.proofs.named.with_name.Goals as goal

pub returns-in_ok-with-in-None : goal.returns-in_ok-with-in-None
returns-in_ok-with-in-None c =
    let before = c.args.names in
    let after = c.in_ok-with-in-None.field-0 in
    λ texts told. rw c.in-None.is (more_told text_of same_name texts_alike _ (λ x y. refl) before.numbers.entries after.numbers.entries before.count after.count None c.in_ok-with-in-None.ensures.numbers c.in_ok-with-in-None.ensures.count texts told)

pub returns-in_ok-with-in-Some : goal.returns-in_ok-with-in-Some
returns-in_ok-with-in-Some c =
    let before = c.args.names in
    let after = c.in_ok-with-in-Some.field-0 in
    λ texts told. rw c.in-Some.is (more_told text_of same_name texts_alike _ (λ x y. refl) before.numbers.entries after.numbers.entries before.count after.count (Some (record { text = c.in-Some.text })) c.in_ok-with-in-Some.ensures.numbers c.in_ok-with-in-Some.ensures.count texts told)
