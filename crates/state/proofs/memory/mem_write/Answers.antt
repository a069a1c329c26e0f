-- `mem_write` meets its contract: the region decides. Assumes nothing.
use Rattle.state.specs.MemoryLaws.{part_within, write_inside, write_outside}
use Rattle.state.proofs.memory.mem_write.Goals as goal

pub copy_in-requires : goal.copy_in-requires
copy_in-requires c = search part_within

pub returns : goal.returns
returns c = let whole =
    write_inside _ _ _ _ _ _ _ c.mem_region.ensures c.in-Some.is c.copy_in.ensures
    in record { answer = whole.0; contents = whole.1 }

pub returns-in_default : goal.returns-in_default
returns-in_default c = let whole =
    write_outside _ _ _ _ c.mem_region.ensures c.in_default.is
    in record { answer = whole.0; contents = whole.1 }
