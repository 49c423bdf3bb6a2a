-- forget meets its contract.
use mathlib.Core.Path.{◌∙◌, ap}
use lib.ListN.{get_or, get_or-append}
use Rattle.std.proofs.lemmas.List.{get_or-replicate, length-take-le}
use native.Mathlib.Omega.{arith}
use Rattle.ambiguous.proofs.agree.forget.Goals as goal

pub returns : goal.returns
returns c j h =
    let long = length-take-le 1018 c.args.seen.now c.requires in
    let zeros = c.fill.ensures.after (λ y e. e) in
    get_or-append c.fill.new.self _ 0 j (omega (arith, c.fill.ensures.len, long, h))
    ∙ ap (λ l. get_or l j 0) zeros
    ∙ get_or-replicate _ j 0 0 (omega (arith, long, h))
