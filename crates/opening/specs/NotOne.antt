-- Why a selector is no one entry's, as a fault (document 01, Numbers returned: 9, 14).
use Rattle.state.specs.declared.fault.Fault.{Fault}
use Rattle.state.specs.declared.fault.Fault.TheVariants.{UnknownSelector, Malformed}
use Rattle.opening.specs.declared.unique_entry.NotOne.{NotOne}
use Rattle.opening.specs.declared.unique_entry.NotOne.TheVariants.{Missing, Twice}

abbrev pub not_one_fault : NotOne → Fault
not_one_fault Missing = UnknownSelector
not_one_fault Twice = Malformed
