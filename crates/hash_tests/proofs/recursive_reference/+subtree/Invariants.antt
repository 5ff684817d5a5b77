use Rattle.hash_tests.proofs.recursive_reference.+subtree.Given as goal

abbrev pub decreases-subtree : goal.decreases-subtree
decreases-subtree l = l.half
