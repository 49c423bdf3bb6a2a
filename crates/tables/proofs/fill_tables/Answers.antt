-- fill_tables meets its contract.
use Prim.Native.Nat.{◌≤◌}
use native.Mathlib.Omega.{arith}
use lib.ListN.{length}
use Rattle.rules.specs.Read.{third, fourth}
use Rattle.tables.specs.Listed.{functions_in, structs_in}
use Rattle.tables.specs.Carried.{few}
use Rattle.tables.proofs.Fill.{above}
use borrow.Author.Rules.{rules}
use Rattle.tables.proofs.fill_tables.Goals as goal

pub returns : goal.returns
returns c = let img = c.args.img.now in
    let few-functions : length (functions_in img) ≤ 256 = few 256 img (fourth img 0) in
    let few-structs : length (structs_in img) ≤ 64 = few 64 img (third img 0) in
    record {
      small = c.requires;
      size = search rules;
      functions = above img c.fill_list-2.new.t _ 0 444 (functions_in img) (omega arith) c.fill_list-3.ensures.1
          (above img c.fill_list.new.t _ 0 318 (functions_in img) (omega arith) c.fill_list-2.ensures.1
          (rw (c.past-functions.ensures.0, c.past-structs.ensures.0, c.past-storage.ensures.0, c.body.ensures.0) at c.fill_list.ensures.0));
      structs = above img c.fill_list-2.new.t _ 318 444 (structs_in img) (omega arith) c.fill_list-3.ensures.1
          (rw (c.past-structs.ensures.0, c.past-storage.ensures.0, c.body.ensures.0) at c.fill_list-2.ensures.0);
      storage = rw (c.past-storage.ensures.0, c.body.ensures.0) at c.fill_list-3.ensures.0;
    }
