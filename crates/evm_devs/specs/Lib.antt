pub mod AnyDevice
pub mod Bus
pub mod Devices
