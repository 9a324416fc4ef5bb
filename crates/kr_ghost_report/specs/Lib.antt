pub mod RunReport
