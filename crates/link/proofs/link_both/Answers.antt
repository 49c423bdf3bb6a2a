-- `link::link_both` meets its contract.
use native.Mathlib.Omega.{arith}
use Rattle.link.proofs.link_both.Goals as goal

pub link_bytes-requires : goal.link_bytes-requires
link_bytes-requires c = (c.facts-facts.ensures, omega (arith, c.if-n-bytes.true))

pub returns-then-n-bytes : goal.returns-then-n-bytes
returns-then-n-bytes c = record { code = c.link.ensures; bytes = λ h. c.link_bytes.ensures }

pub returns-else-n-bytes : goal.returns-else-n-bytes
returns-else-n-bytes c = record { code = c.link.ensures; bytes = λ h. absurd (omega (arith, c.if-n-bytes.false, h)) }
