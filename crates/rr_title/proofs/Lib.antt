mod SafeLemmas
