-- `fetch` meets its contract. Assumes nothing.
use Rattle.std.proofs.Common.{sym, ◌∙◌, arith}
use Rattle.isa.specs.RoundTripTheorems.{decode_place}
use Rattle.interp.specs.FetchLaws.{fetch_refused, fetch_on}
use Rattle.interp.proofs.fetch.fetch.Goals as goal

pub returns-in_err-i : goal.returns-in_err-i
returns-in_err-i c = rw c.in_err-i.was (fetch_refused c.args.run _ _ c.from_residual.ensures.1)

pub onward-requires : goal.onward-requires
onward-requires c =
    let (code, read, short) = c.requires.1 in
    let p = decode_place code c.args.run.pc _ _ (sym read ∙ c.in_ok-i.was) in omega (arith, p.within, short)

pub returns : goal.returns
returns c = rw c.in_ok-i.was (fetch_on c.args.run c.in_ok-i.i c.in_ok-i.n c.onward.result c.onward.ensures)
