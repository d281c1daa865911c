use Rattle.std.proofs.Common.{◌≡◌, arith}
use Rattle.hash_tests.proofs.holding.hold_three.Goals as goal

pub returns-clause-held : goal.returns-clause-held
returns-clause-held g c =
    let at_0 : c.in-Held.first.place ≡ 0 = c.in-Held.ensures.reached.1 in
    let at_1 : c.in-Held-hold.second.place ≡ 1 = c.in-Held-hold.ensures.reached.1 in
    let first = c.in-Held-hold.ensures.keeps.holds c.in-Held.first (λ same. omega (arith, at_0, same)) c.in-Held.ensures.reached.0 in (
      c.in-Held-hold-2.ensures.keeps.holds c.in-Held.first (λ same. omega (arith, at_0, same)) first,
      c.in-Held-hold-2.ensures.keeps.holds c.in-Held-hold.second (λ same. omega (arith, at_1, same)) c.in-Held-hold.ensures.reached.0,
      c.in-Held-hold-2.ensures.reached.0,
    )
