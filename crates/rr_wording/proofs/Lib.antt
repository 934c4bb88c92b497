mod Examples
mod PutLemmas
