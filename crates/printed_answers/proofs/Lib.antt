mod JsonWritten
mod MembersInOrder
mod JsonExampleProofs
mod JsonReported
