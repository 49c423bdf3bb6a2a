-- Number, place and count of every refusal before the room is looked at: an instance of `program_said`.
-- Assumes nothing.
use Rattle.std.specs.Prelude.{◌≡◌, ◌≤◌, ◌<◌}
use Rattle.rules.specs.Refusal.{Refusal, refused, number_of, place_of}

-- A number from 1 to 255, a place of at most 65,536, and no count.
pub record Plain (r : Refusal) : Type 0 where
  pub some : 1 ≤ number_of r
  pub few : number_of r < 256
  pub near : place_of r ≤ 65536
  pub none : (refused r).count ≡ 0
