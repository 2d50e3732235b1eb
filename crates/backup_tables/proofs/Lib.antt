mod ChangedLemmas
