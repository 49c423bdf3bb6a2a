-- What an iterator over records has left.
-- Assumes nothing.
use Rattle.std.specs.Prelude.{List, ℕ}
use Rattle.rules.specs.Read.{places_from}
use Rattle.records.specs.declared.Records.{Records}

abbrev pub places_left : Records → List ℕ
places_left r = places_from r.left r.img.now r.at r.end
