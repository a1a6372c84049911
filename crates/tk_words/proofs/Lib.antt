mod AddressLemmas
mod FoundLemmas
mod LogsLemmas
