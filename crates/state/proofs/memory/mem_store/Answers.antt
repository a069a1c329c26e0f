-- `mem_store` meets its contract: the region decides. Assumes nothing.
use Rattle.state.specs.MemoryLaws.{part_within, store_inside, store_outside}
use Rattle.state.proofs.memory.mem_store.Goals as goal

pub write-requires : goal.write-requires
write-requires c = search part_within

pub returns : goal.returns
returns c = let whole =
    store_inside _ _ _ _ _ _ _ c.mem_region.ensures c.in-Some.is c.write.ensures
    in record { answer = whole.0; contents = whole.1 }

pub returns-in_default : goal.returns-in_default
returns-in_default c = let whole =
    store_outside _ _ _ _ c.mem_region.ensures c.in_default.is
    in record { answer = whole.0; contents = whole.1 }
