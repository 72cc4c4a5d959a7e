pub mod WaitsCall
