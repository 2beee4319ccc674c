pub mod RemoteLaws
