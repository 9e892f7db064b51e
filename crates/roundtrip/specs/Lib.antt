-- Bytes handed to the station's message call, and the writer's bytes among them.
pub mod Feeding
pub mod RoundTrip
