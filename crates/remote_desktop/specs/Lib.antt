pub mod RemoteDesktop
pub mod Steps
