use Rattle.py_token.proofs.layout.+close.Given as goal

abbrev pub decreases-close : goal.decreases-close
decreases-close l = l.count
