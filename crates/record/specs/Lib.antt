-- Fields, the record they make, and the contracts of the calls on it, also as a C host makes them.
pub mod Fields
pub mod Record
pub mod RecordCalls
pub mod HostRecordCalls
