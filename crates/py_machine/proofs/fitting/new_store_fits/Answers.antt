use Rattle.py_machine.proofs.Fitted.{new_store_fits}
use Rattle.py_machine.proofs.fitting.new_store_fits.Goals as goal

pub returns : goal.returns
returns c = new_store_fits
