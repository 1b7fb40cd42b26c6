mod Divided
