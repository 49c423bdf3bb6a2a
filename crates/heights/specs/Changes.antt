-- What the table of low bytes says of the height (02: P7) is what a path does.
-- Assumes nothing.
use Rattle.std.specs.Prelude.{◌≡◌, ℕ, suc}
use Rattle.isa.specs.declared.Height.{Height}
use Rattle.isa.specs.declared.Height.TheVariants.{Same, Up, Down, Call, Ret}
use Rattle.rules.specs.Machine.{Kind}

-- 01: Heights: what a word of each kind does to the height. Jumps leave it; at what is stuck no path goes on.
abbrev pub change_of : Kind → Height
change_of Kind.plain = Same
change_of Kind.pushes = Up
change_of Kind.pops = Down
change_of Kind.jumps = Same
change_of Kind.forks = Same
change_of Kind.calls = Call
change_of Kind.ends = Ret
change_of Kind.stuck = Same

-- 01: Heights: t taken and g given, by the change. A Call takes what its function has parameters; a Ret has no step.
abbrev pub Changes : Height → ℕ → ℕ → Type 0
Changes Same t g = g ≡ t
Changes Up t g = g ≡ suc t
Changes Down t g = t ≡ suc g
Changes Call t g = g ≡ 1
Changes Ret t g = ⊥
