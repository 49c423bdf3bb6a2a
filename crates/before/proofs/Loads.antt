-- 02: P2: of each access that analysis accepts, if its base is of a declared struct, the Load's number is 8 times the first position of the field in
-- that struct, as last declared.
-- Assumes nothing.
use Rattle.std.specs.Prelude.{◌≡◌, List, ℕ}
use Rattle.rules.specs.Meant.{accesses}
use Rattle.rules.specs.Seen.{Sound}
use Rattle.rules.specs.Check.{check_of}
use Rattle.rules.specs.Read.{contract_at}
use Rattle.bounds.specs.Held.{Each}
use Rattle.bounds.proofs.ContractOf.{accesses_sparse}
use Rattle.before.specs.Loads.{base_found, Meant, meant_each}

pub meant_loads : (img : List ℕ) (q m : ℕ) → check_of img ≡ Sound q m → Each (Meant (contract_at img)) (accesses (contract_at img))
meant_loads img q m e = meant_each (contract_at img) (accesses (contract_at img)) (base_found (accesses (contract_at img)) (accesses_sparse img q m e).apart)
